-- What a start file's label texts mean in its schemes.
use Rattle.std.specs.Prelude.{ℕ, List, Option, Some}
use Rattle.std.specs.Result.{result_ok}
use Rattle.mls_labels.specs.Label.{Label}
use Rattle.mls_labels.specs.Reading.{place_of, label_at}
use Rattle.mls_labels.specs.Scheme.{Scheme}
use Rattle.mls_lines.specs.Names.{Names}
use Rattle.mls_state.specs.declared.subject.Subject.{Subject}
use Rattle.mls_state.specs.declared.subject.ObjectLabels.{ObjectLabels}
use Rattle.mls_start_text.specs.declared.labels.LabelledChild.{LabelledChild}
use Rattle.mls_start_text.specs.Each.{having, each_of}
use Rattle.mls_start_text.specs.Texts.{SaidFile, SaidSubject, SaidObject, SaidChild}

-- A start file whose labels are known: the subjects, the root's labels, and the objects below it, each with the place
-- of its parent's name among the objects' names, where it is one of them. (own)
pub record Labelled : Type 0 where
  pub subjects : List Subject
  pub root : ObjectLabels
  pub children : List LabelledChild

-- The label that a text spells in a scheme, where it spells one. (own)
abbrev pub label_in : Scheme → List ℕ → Option Label
label_in scheme text = result_ok (label_at scheme text)

-- A subject with its labels: the maximum and the current one by the security scheme, the third by the integrity scheme.
-- (own)
abbrev pub labelled_subject : Scheme → Scheme → SaidSubject → Option Subject
labelled_subject security integrity s =
    having (label_in security s.maximum) (λ maximum.
    having (label_in security s.current) (λ current.
    having (label_in integrity s.integrity) (λ level.
    Some (record { maximum = maximum; current = current; integrity = level; trusted = s.trusted }))))

-- An object's labels: by the security scheme and by the integrity scheme. (own)
abbrev pub object_labels : Scheme → Scheme → SaidObject → Option ObjectLabels
object_labels security integrity o =
    having (label_in security o.security) (λ label.
    having (label_in integrity o.integrity) (λ level.
    Some (record { security = label; integrity = level })))

-- An object below the root with its labels, and what its parent's name stands for among these names. (own)
abbrev pub labelled_child : Scheme → Scheme → List (List ℕ) → SaidChild → Option LabelledChild
labelled_child security integrity names c =
    having (object_labels security integrity c.object) (λ labels.
    Some (record { parent = place_of names c.parent; labels = labels }))

-- A file of these names with its labels, where each text spells one in its scheme. (own)
abbrev pub labels_of : Names → SaidFile → Option Labelled
labels_of names file =
    having (object_labels names.security names.integrity file.root) (λ root.
    having (each_of (labelled_subject names.security names.integrity) file.subjects) (λ subjects.
    having (each_of (labelled_child names.security names.integrity names.objects) file.children) (λ children.
    Some (record { subjects = subjects; root = root; children = children }))))
