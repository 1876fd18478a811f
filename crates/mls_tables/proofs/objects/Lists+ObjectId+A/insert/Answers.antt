use Rattle.std.proofs.Common.{subst}
use Rattle.mls_tables.specs.Rows.{Entered}
use Rattle.mls_tables.proofs.objects.Lists+ObjectId+A.insert.Goals as goal

pub returns-clause-ok : goal.returns-clause-ok
returns-clause-ok g c = subst (λ l. Entered c.args.i c.args.o l c.enter_in_place.new.self.lists) c.make_room.ensures.same c.enter_in_place.ensures.entered
