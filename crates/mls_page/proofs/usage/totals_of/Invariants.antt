use Rattle.std.proofs.Common.{◌≡◌, map, take}
use Rattle.mls_page.specs.Usage.{total_of}
use Rattle.mls_page.proofs.usage.totals_of.Given as goal

-- those so far
abbrev pub invariant-loop-run : goal.invariant-loop-run
invariant-loop-run l = l.found.items ≡ map total_of (map (λ run. run.now) (take l.run-index l.runs))
