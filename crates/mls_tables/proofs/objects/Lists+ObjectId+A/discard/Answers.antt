use Rattle.std.proofs.Common.{set, ap, ◌∙◌}
use Rattle.mls_tables.proofs.Ordered.{left-filter}
use Rattle.mls_tables.proofs.objects.Lists+ObjectId+A.discard.Goals as goal

pub returns-clause-gone : goal.returns-clause-gone
returns-clause-gone g c =
    let place = rw c.list.ensures at c.searched-place.ensures.place in
    c.leave.ensures ∙ ap (set c.args.self.now.lists c.args.i) (left-filter _ c.args.o c.searched-place.result c.requires.ascending (place c.requires.ascending))
