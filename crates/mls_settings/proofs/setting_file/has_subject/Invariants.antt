use Rattle.std.proofs.Common.{◌≡◌, map, drop}
use Rattle.std.specs.List.{list_any}
use Rattle.std.specs.Str.{bytes_eq}
use Rattle.mls_start_text.specs.Views.{subject_view}
use Rattle.mls_settings.proofs.setting_file.has_subject.Given as goal

-- it depends on what is left
abbrev pub invariant-loop-subject : goal.invariant-loop-subject
invariant-loop-subject l =
    list_any (λ s. bytes_eq s.name l.name) (map subject_view l.subjects)
    ≡ list_any (λ s. bytes_eq s.name l.name) (map subject_view (drop l.subject-index l.subjects))
