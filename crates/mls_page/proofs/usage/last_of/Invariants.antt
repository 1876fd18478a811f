use Rattle.std.proofs.Common.{◌≡◌, take}
use Rattle.mls_page.specs.Usage.{last_of}
use Rattle.mls_page.proofs.usage.last_of.Given as goal

-- that of those so far
abbrev pub invariant-loop-usage : goal.invariant-loop-usage
invariant-loop-usage l = l.last ≡ last_of (take l.usage-index l.usages)
