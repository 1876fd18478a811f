use Rattle.mls_flow_text.specs.Ways.{AreFound}
use Rattle.mls_flow_text.proofs.visiting.written_ways.Given as goal

-- the rows of the places so far
abbrev pub invariant-loop-n : goal.invariant-loop-n
invariant-loop-n l = AreFound l.names l.fn.form l.state l.from l.found l.n l.written
