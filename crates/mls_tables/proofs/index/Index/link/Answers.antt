use Rattle.std.proofs.Common.{sym, subst}
use Rattle.mls_tables.specs.declared.limits.TheConstants.{MAX_SUBJECTS, MAX_OBJECTS}
use Rattle.mls_tables.specs.Rows.{IsRows}
use Rattle.mls_tables.proofs.Indexes.{Indexes-linked}
use Rattle.mls_tables.proofs.index.Index.link.Goals as goal

pub returns-clause-ok : goal.returns-clause-ok
returns-clause-ok g c p h =
    let rows = subst (IsRows p MAX_OBJECTS) (sym c.make_room.ensures.same) h.rows in
    let columns = subst (IsRows (λ o s. p s o) MAX_SUBJECTS) (sym c.make_room-2.ensures.same) h.columns in
    Indexes-linked p c.args.s c.args.o c.args.self.now.objects.lists c.args.self.now.subjects.lists c.enter_object.new.objects.lists c.enter_subject.new.subjects.lists c.requires.subject c.requires.object h
    (c.enter_object.ensures.entered.told p MAX_OBJECTS c.requires.object rows)
    (c.enter_subject.ensures.entered (λ o s. p s o) MAX_SUBJECTS c.requires.subject columns)
