use Rattle.std.proofs.Common.{refl, ◌∙◌}
use Rattle.mls_about.specs.Objects.{access_bytes}
use Rattle.mls_about.proofs.Texts.{begins, grows_in, column_none, column_more}
use Rattle.mls_about.proofs.object.with_column.Goals as goal

pub loop-s-init : goal.loop-s-init
loop-s-init c = (refl, begins _ _ (column_none _ _ _ _))

pub loop-s-preserved : goal.loop-s-preserved
loop-s-preserved c = (
  c.in_ok-written.ensures.form ∙ c.loop-s.invariant.0,
  grows_in (λ form. access_bytes form c.args.names.now c.args.state.now.accesses c.args.o c.loop-s.s) _ _ _ _ _ _ _ c.loop-s.invariant.0
      c.loop-s.invariant.1 c.in_ok-written.ensures.bytes (column_more _ _ _ _ _),
)
