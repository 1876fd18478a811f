use Rattle.std.proofs.Common.{◌≡◌, map, take}
use Rattle.mls_start_text.specs.Views.{subject_view}
use Rattle.mls_start_text.proofs.file_text.FileText.subject_names.Given as goal

-- the names of the subjects so far
abbrev pub invariant-loop-subject : goal.invariant-loop-subject
invariant-loop-subject l = map (λ name. name.now) l.names.items ≡ map (λ s. s.name) (map subject_view (take l.subject-index l.self.subjects.items))
