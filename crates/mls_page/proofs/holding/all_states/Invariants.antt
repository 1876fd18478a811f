use Rattle.std.proofs.Common.{◌≡◌, map, take}
use Rattle.mls_page.specs.Held.{states_of}
use Rattle.mls_page.proofs.holding.all_states.Given as goal

-- those so far
abbrev pub invariant-loop-run : goal.invariant-loop-run
invariant-loop-run l = l.states.items ≡ map (states_of l.entries) (map (λ run. run.now) (take l.run-index l.runs))
