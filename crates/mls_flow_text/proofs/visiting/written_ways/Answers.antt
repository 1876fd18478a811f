use Rattle.std.proofs.Common.{subst}
use Rattle.mls_flow_text.specs.Ways.{AddsPlace}
use Rattle.mls_flow_text.proofs.Ways.{more_ways}
use Rattle.mls_flow_text.proofs.visiting.written_ways.Goals as goal

pub loop-n-preserved : goal.loop-n-preserved
loop-n-preserved c =
    more_ways c.args.names.now c.args.state.now c.args.from c.args.found.now c.args.form c.loop-n.n c.loop-n.written c.in_ok-written.written c.loop-n.invariant
    (subst (λ p. AddsPlace c.args.names.now c.args.state.now c.args.from c.args.found.now p c.loop-n.written c.in_ok-written.written) c.place_of.ensures
    c.in_ok-written.ensures)
