use Rattle.std.proofs.Common.{◌≡◌, map, take, Some}
use Rattle.mls_start_text.specs.Each.{each_of}
use Rattle.mls_start_text.specs.Labelling.{labelled_subject}
use Rattle.mls_start_text.specs.Views.{subject_view}
use Rattle.mls_start_text.proofs.labels.label_subjects.Given as goal

-- the rows are those of the subjects so far
abbrev pub invariant-loop-subject : goal.invariant-loop-subject
invariant-loop-subject l = each_of (labelled_subject l.schemes.security l.schemes.integrity) (map subject_view (take l.subject-index l.subjects)) ≡ Some l.rows.items
