use Rattle.std.proofs.Common.{refl, ◌∙◌}
use Rattle.mls_shared_rows.specs.StateRows.{subject_bytes}
use Rattle.mls_shared_rows.proofs.States.{begins, grows_in, subjects_none, subjects_more}
use Rattle.mls_shared_rows.proofs.things.with_subjects.Goals as goal

pub loop-s-init : goal.loop-s-init
loop-s-init c = (refl, begins _ _ (subjects_none _ _ _))

pub loop-s-preserved : goal.loop-s-preserved
loop-s-preserved c = (
  c.in_ok-written.ensures.form ∙ c.loop-s.invariant.0,
  grows_in (λ form. subject_bytes form c.args.names.now c.args.state.now c.loop-s.s) _ _ _ _ _ _ _ c.loop-s.invariant.0
      c.loop-s.invariant.1 c.in_ok-written.ensures.bytes (subjects_more _ _ _ _),
)
