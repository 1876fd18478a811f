-- Where a start file has label texts that are refused.
use Rattle.std.specs.Prelude.{ℕ, List, [], ◌++◌, codes, Result, Ok, Err}
use Rattle.mls_labels.specs.Label.{Label}
use Rattle.mls_labels.specs.Reading.{label_at}
use Rattle.mls_labels.specs.Scheme.{Scheme}
use Rattle.mls_labels.specs.declared.label_fault.LabelFault.{LabelFault}
use Rattle.mls_labels.specs.declared.label_fault.LabelFault.TheVariants.{BadForm, UnknownLevel, UnknownCategory}
use Rattle.mls_labels.specs.declared.label_fault.LabelFault.TheVariants.{RepeatedCategory}
use Rattle.mls_start_text.specs.Texts.{SaidFile, SaidSubject, SaidObject, SaidChild}
use Rattle.mls_start_faults.specs.Each.{at_each}
use Rattle.mls_start_faults.specs.Places.{Located, located, on_member}

-- The words for a label's fault. (own)
abbrev pub label_words : LabelFault → List ℕ
label_words BadForm = codes "bad form"
label_words UnknownLevel = codes "unknown level"
label_words UnknownCategory = codes "unknown category"
label_words RepeatedCategory = codes "repeated category"

-- The place of a member by what reading it as a label gave: none for a label. (own)
abbrev pub read_place : List ℕ → ℕ → List ℕ → Result Label LabelFault → List Located
read_place list n member (Ok label) = []
read_place list n member (Err fault) = located (on_member list n member (label_words fault))

-- The place of a member that is to be a label of a scheme. (own)
abbrev pub label_place : Scheme → List ℕ → ℕ → List ℕ → List ℕ → List Located
label_place scheme list n member text = read_place list n member (label_at scheme text)

-- The places of a subject's labels: the maximum and the current one by the security scheme, the third by the integrity
-- scheme. (own)
abbrev pub subject_places : Scheme → Scheme → ℕ → SaidSubject → List Located
subject_places security integrity n s =
    label_place security (codes "subjects") n (codes "maximum") s.maximum
    ++ (label_place security (codes "subjects") n (codes "current") s.current
    ++ label_place integrity (codes "subjects") n (codes "integrity") s.integrity)

-- The places of an object's labels: by the security scheme and by the integrity scheme. (own)
abbrev pub object_places : Scheme → Scheme → ℕ → SaidObject → List Located
object_places security integrity n o =
    label_place security (codes "objects") n (codes "security") o.security
    ++ label_place integrity (codes "objects") n (codes "integrity") o.integrity

-- The places of the labels of an object below the root. (own)
abbrev pub child_places : Scheme → Scheme → ℕ → SaidChild → List Located
child_places security integrity n c = object_places security integrity n c.object

-- The places of a file's labels: of subjects, then of objects. (own)
abbrev pub labels_found : SaidFile → List Located
labels_found file =
    at_each (subject_places file.security file.integrity) 0 file.subjects
    ++ (object_places file.security file.integrity 0 file.root
    ++ at_each (child_places file.security file.integrity) 1 file.children)
