use Rattle.std.proofs.Common.{◌≡◌, map, take, Some}
use Rattle.serde_json.specs.View.{view}
use Rattle.mls_start_text.specs.Each.{each_of}
use Rattle.mls_complete.specs.Short.{short_subject}
use Rattle.mls_start_text.specs.Views.{subject_view}
use Rattle.mls_complete.proofs.rows.read_subjects.Given as goal

-- the rows are those of the values so far
abbrev pub invariant-loop-value : goal.invariant-loop-value
invariant-loop-value l = each_of (short_subject l.least) (map view (take l.value-index l.list)) ≡ Some (map subject_view l.rows.items)
