use Rattle.std.proofs.Common.{◌≡◌, filter, take}
use Rattle.mls_spans.specs.Uses.{is_unused}
use Rattle.mls_spans.proofs.usage_chosen.unused_of.Given as goal

-- those so far that were never granted
abbrev pub invariant-loop-usage : goal.invariant-loop-usage
invariant-loop-usage l = l.found.items ≡ filter is_unused (take l.usage-index l.usages)
