use Rattle.std.proofs.Common.{◌≡◌, All, IsTrue, drop}
use Rattle.mls_state.specs.First.{with_triples}
use Rattle.mls_state.specs.Properties.{is_known}
use Rattle.mls_snapshots.proofs.rebuilding.access_each.Given as goal

-- all but the accesses is as it was, and where each triple names what is there, these with the triples that are left
-- are they with all
abbrev pub invariant-loop-triple : goal.invariant-loop-triple
invariant-loop-triple l = record {
  same : l.state ≡ record l.fn.state { accesses = l.state.accesses };
  triples : All (λ t. IsTrue (is_known l.fn.state t)) l.triples
      → with_triples l.state.accesses (drop l.triple-index l.triples) ≡ with_triples l.fn.state.accesses l.triples;
}
