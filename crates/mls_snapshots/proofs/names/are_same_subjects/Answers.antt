use Rattle.std.proofs.Common.{ap, ◌∙◌}
use Rattle.std.specs.Prelude.{not}
use Rattle.mls_snapshots.proofs.Likes.{names_until}
use Rattle.mls_snapshots.proofs.names.are_same_subjects.Goals as goal

pub returns-then-is_none : goal.returns-then-is_none
returns-then-is_none c = λ _.
    names_until _ _ c.subject_name-one.result c.subject_name-other.result c.loop-s.s _ _ c.loop-s.invariant c.new.ensures c.new-in-loop-s.ensures
    c.subject_name-one.ensures c.subject_name-other.ensures (c.is_same_name.ensures c.if-not-is_same_name.false) (c.is_none.ensures ∙ ap not c.if-is_none.true)
