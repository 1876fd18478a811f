use Rattle.std.proofs.Common.{◌≡◌, take}
use Rattle.mls_page.specs.Held.{states_of}
use Rattle.mls_page.proofs.holding.states_of.Given as goal

-- that of those so far
abbrev pub invariant-loop-span : goal.invariant-loop-span
invariant-loop-span l = l.states ≡ states_of l.entries (take l.span-index l.spans)
