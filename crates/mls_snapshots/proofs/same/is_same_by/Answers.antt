use Rattle.mls_snapshots.proofs.same.is_same_by.Goals as goal

pub returns : goal.returns
returns c = λ carried. record {
  profile = c.has_same_kind.ensures.profile c.if-not-has_same_kind.false;
  security = c.has_same_kind.ensures.security c.if-not-has_same_kind.false;
  integrity = c.has_same_kind.ensures.integrity c.if-not-has_same_kind.false;
  subjects = c.has_same_subjects.ensures c.if-not-has_same_subjects.false;
  next = c.requires.next;
  active = c.requires.active;
  objects = c.are_renumbered.ensures c.if-not-are_renumbered.false;
  matrix = c.is_carried_over.ensures c.if-not-is_carried_over.false;
  accesses = c.is_carried_over-2.ensures carried;
}
