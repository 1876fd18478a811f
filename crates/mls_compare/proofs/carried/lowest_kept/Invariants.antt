use Rattle.mls_compare.specs.Carriers.{AreKept}
use Rattle.mls_compare.proofs.carried.lowest_kept.Given as goal

-- none is kept
abbrev pub invariant-loop : goal.invariant-loop
invariant-loop l = AreKept l.scheme l.other l.slots.items
