use Rattle.std.proofs.Common.{◌≡◌, length, map, take}
use Rattle.mls_page.proofs.powers.lengths_of.Given as goal

-- those so far
abbrev pub invariant-loop-run : goal.invariant-loop-run
invariant-loop-run l = l.lengths.items ≡ map (λ run. length run) (map (λ run. run.now) (take l.run-index l.runs))
