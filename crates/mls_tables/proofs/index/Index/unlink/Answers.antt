use Rattle.mls_tables.specs.declared.limits.TheConstants.{MAX_SUBJECTS, MAX_OBJECTS}
use Rattle.mls_tables.proofs.Indexes.{Indexes-unlinked}
use Rattle.mls_tables.proofs.index.Index.unlink.Goals as goal

pub returns-clause-gone : goal.returns-clause-gone
returns-clause-gone g c = record {
  told = λ p h.
      Indexes-unlinked p c.args.s c.args.o c.args.self.now.objects.lists c.args.self.now.subjects.lists c.take_object.new.objects.lists c.take_subject.new.subjects.lists h
      (c.take_object.ensures.taken p MAX_OBJECTS h.rows)
      (c.take_subject.ensures.taken (λ o s. p s o) MAX_SUBJECTS h.columns);
}
