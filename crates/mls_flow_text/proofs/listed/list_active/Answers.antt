use Rattle.std.proofs.Common.{sym, subst, ◌∙◌}
use Rattle.mls_futures.specs.Closure.{acts_in}
use Rattle.mls_flows.specs.declared.place.Place.TheVariants.{Object}
use Rattle.mls_paths.specs.Found.{IsFlow}
use Rattle.mls_paths.specs.Hands.{IsHand, has_room}
use Rattle.mls_flow_text.proofs.Flows.{reach_number, rows_active}
use Rattle.mls_flow_text.proofs.listed.list_active.Goals as goal

pub returns : goal.returns
returns c =
    let v = c.args.state.now in
    let acts = acts_in c.args.actors.now in
    rows_active c.args.names.now c.args.form v acts c.args.from c.deref.result.now c.in_ok-output.field-0 c.into_bytes.result.items
    (subst (IsFlow (IsHand v acts (has_room v)) (Object c.args.from)) (sym c.deref.ensures.value) c.in_ok-found.ensures.ways) c.in_ok-output.ensures
    (reach_number v acts c.subject_count.result c.agrees.ensures.tree c.agrees.ensures.whole c.subject_count.ensures.count c.subject_count.ensures.most c.args.from
    c.requires (has_room v)) (c.into_bytes.ensures ∙ c.in_ok-output-2.ensures)
