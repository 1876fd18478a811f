use Rattle.std.proofs.Common.{refl, ◌∙◌}
use Rattle.mls_shared_rows.specs.StateRows.{object_bytes}
use Rattle.mls_shared_rows.proofs.States.{begins, grows_in, objects_none, objects_more}
use Rattle.mls_shared_rows.proofs.things.with_objects.Goals as goal

pub loop-o-init : goal.loop-o-init
loop-o-init c = (refl, begins _ _ (objects_none _ _ _))

pub loop-o-preserved : goal.loop-o-preserved
loop-o-preserved c = (
  c.in_ok-written.ensures.form ∙ c.loop-o.invariant.0,
  grows_in (λ form. object_bytes form c.args.names.now c.args.state.now c.loop-o.o) _ _ _ _ _ _ _ c.loop-o.invariant.0
      c.loop-o.invariant.1 c.in_ok-written.ensures.bytes (objects_more _ _ _ _),
)
