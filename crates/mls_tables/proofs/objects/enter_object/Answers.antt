use Rattle.std.proofs.Common.{subst, ◌∙◌}
use Rattle.mls_tables.specs.Rows.{Entered}
use Rattle.mls_tables.proofs.objects.enter_object.Goals as goal

pub returns-clause-entered : goal.returns-clause-entered
returns-clause-entered g c =
    subst (λ k. Entered k c.args.o c.args.objects.now.lists c.enter_in_place.new.self.lists) (c.from.ensures ∙ c.s.view_is) c.enter_in_place.ensures.entered
