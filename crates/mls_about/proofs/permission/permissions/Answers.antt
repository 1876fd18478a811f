use Rattle.std.proofs.Common.{◌++◌, All, map, sym, subst, ap, ◌∙◌, arith}
use Rattle.mls_tables.specs.Once.{accesses_at}
use Rattle.mls_about.specs.Permissions.{triple_of, IsTold}
use Rattle.mls_about.proofs.Texts.{permitted_none, permitted_more}
use Rattle.mls_about.proofs.permission.permissions.Goals as goal

pub loop-o-init : goal.loop-o-init
loop-o-init c = record {
  triples = ap (map triple_of) c.new-found.ensures.items ∙ sym (permitted_none c.args.state.now c.args.s);
  each = subst (All (IsTold c.args.state.now)) (sym c.new-found.ensures.items) (λ k d h. absurd (omega (arith, h)));
}

pub loop-o-preserved : goal.loop-o-preserved
loop-o-preserved c = record {
  triples =
      c.in_ok-push_object_modes.ensures.triples
      ∙ ap (λ t. t ++ accesses_at c.args.state.now.matrix c.args.s c.loop-o.o) c.loop-o.invariant.triples
      ∙ sym (permitted_more c.args.state.now c.args.s c.loop-o.o);
  each = c.in_ok-push_object_modes.ensures.each;
}
