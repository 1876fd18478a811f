use Rattle.std.proofs.Common.{refl, ◌∙◌}
use Rattle.mls_about.specs.Objects.{child_bytes}
use Rattle.mls_about.proofs.Texts.{begins, grows_in, children_none, children_more}
use Rattle.mls_about.proofs.object.with_children.Goals as goal

pub loop-child-init : goal.loop-child-init
loop-child-init c = (refl, begins _ _ (children_none _ _ _ _))

pub loop-child-preserved : goal.loop-child-preserved
loop-child-preserved c = (
  c.in_ok-written.ensures.form ∙ c.loop-child.invariant.0,
  grows_in (λ form. child_bytes form c.args.names.now c.args.state.now c.args.o c.loop-child.child) _ _ _ _ _ _ _ c.loop-child.invariant.0
      c.loop-child.invariant.1 c.in_ok-written.ensures.bytes (children_more _ _ _ _ _),
)
