use Rattle.std.proofs.Common.{◌≡◌, map, take}
use Rattle.mls_page.specs.Counts.{share_of}
use Rattle.mls_page.proofs.share.shares_in.Given as goal

-- those so far
abbrev pub invariant-loop-run : goal.invariant-loop-run
invariant-loop-run l = l.found.items ≡ map share_of (map (λ run. run.now) (take l.run-index l.runs))
