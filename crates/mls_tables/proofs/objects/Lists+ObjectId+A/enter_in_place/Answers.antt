use Rattle.mls_tables.proofs.Rows.{IsRows-entered}
use Rattle.mls_tables.proofs.objects.Lists+ObjectId+A.enter_in_place.Goals as goal

pub returns-clause-entered : goal.returns-clause-entered
returns-clause-entered g c = record {
  told = λ p n below rows.
      let place = rw c.list.ensures at c.place_of_object-place.ensures.place in
      IsRows-entered p n c.args.self.now.lists rows c.args.i c.args.o c.place_of_object-place.result place c.requires.list below c.enter.new.self.lists c.enter.ensures;
}
