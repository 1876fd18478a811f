use Rattle.std.proofs.Common.{◌≡◌, map, take}
use Rattle.mls_start_text.specs.Views.{subject_view}
use Rattle.mls_settings.specs.Settings.{set_subject}
use Rattle.mls_settings.proofs.setting_file.set_subjects.Given as goal

-- those so far
abbrev pub invariant-loop-subject : goal.invariant-loop-subject
invariant-loop-subject l =
    map subject_view l.set.items ≡ map (set_subject l.setting) (map subject_view (take l.subject-index l.subjects))
