use Rattle.std.proofs.Common.{◌≡◌, drop}
use Rattle.mls_state.specs.First.{with_triples}
use Rattle.mls_state.proofs.state.State.access_all.Given as goal

-- all but the accesses is as it was, and these with the triples that are left are they with all
abbrev pub invariant-loop-triple : goal.invariant-loop-triple
invariant-loop-triple g l = record {
  same : l.self ≡ record l.fn.self { accesses = l.self.accesses };
  triples : with_triples l.self.accesses (drop l.triple-index l.triples) ≡ with_triples l.fn.self.accesses l.triples;
}
