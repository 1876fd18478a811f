use Rattle.std.proofs.Common.{◌≡◌, take}
use Rattle.mls_spans.specs.UsageChosen.{chosen}
use Rattle.mls_spans.proofs.usage_chosen.chosen.Given as goal

-- those so far that are asked for
abbrev pub invariant-loop-usage : goal.invariant-loop-usage
invariant-loop-usage l = l.found.items ≡ chosen l.choice (take l.usage-index l.usages)
