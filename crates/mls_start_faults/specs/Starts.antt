-- Where the start that a file says is refused.
use Rattle.std.specs.Prelude.{ℕ, zero, suc, Bool, false, ◌||◌, ◌==◌, ◌-◌, List, [], ◌∷◌, codes, length, nat_lt, map}
use Rattle.std.specs.Prelude.{slice_get, Option, Some, None, option_map, unwrap_or, if◌then◌else◌}
use Rattle.mls_facts.specs.Numbered.{holds_of}
use Rattle.mls_labels.specs.Label.{dominates}
use Rattle.mls_state.specs.declared.subject.ObjectLabels.{ObjectLabels}
use Rattle.mls_state.specs.declared.subject.Subject.{Subject}
use Rattle.mls_start.specs.StartFaults.{current_fits}
use Rattle.mls_state.specs.declared.start_fault.StartFault.{StartFault}
use Rattle.mls_state.specs.declared.start_fault.StartFault.TheVariants.{NoSubjects, TooManySubjects, TooManyObjects}
use Rattle.mls_state.specs.declared.start_fault.StartFault.TheVariants.{BadLabel, BadParent, CurrentAboveMaximum}
use Rattle.mls_state.specs.declared.start_fault.StartFault.TheVariants.{NotCompatible, IntegrityAboveParent}
use Rattle.mls_state.specs.declared.start_fault.StartFault.TheVariants.{NoSuchCell, NotSecure}
use Rattle.mls_start_text.specs.Each.{having}
use Rattle.mls_start_text.specs.Labelling.{Labelled, labels_of}
use Rattle.mls_start_text.specs.Naming.{names_of}
use Rattle.mls_start_text.specs.Texts.{SaidFile}
use Rattle.mls_start_text.specs.declared.labels.LabelledChild.{LabelledChild}
use Rattle.mls_start_faults.specs.Accesses.{accesses_found}
use Rattle.mls_start_faults.specs.Each.{at_each}
use Rattle.mls_start_faults.specs.Places.{Located, located, on_list, on_member}

-- The place of the parent of the object of a number, the root's being none, where its parent's name is an object's; of
-- the objects below the root in the file's order. (own)
abbrev pub parent_of : List LabelledChild → ℕ → Option ℕ
parent_of children n = if n == 0 then None else having (slice_get children (n - 1)) (λ c. c.parent)

-- Parents lead from a place to this one, in at most so many steps. (own)
unfoldable pub leads_to : List LabelledChild → ℕ → ℕ → Option ℕ → Bool
leads_to children n zero next = false
leads_to children n (suc steps) None = false
leads_to children n (suc steps) (Some p) = p == n || leads_to children n steps (parent_of children p)

-- The parents from an object on lead back to it: a cycle has no more objects than there are below the root. (own)
abbrev pub is_in_cycle : List LabelledChild → ℕ → Bool
is_in_cycle children n = leads_to children n (length children) (parent_of children n)

-- What is wrong with a parent that isn't before an object. (own)
abbrev pub before_words : Bool → List ℕ
before_words in_cycle = if in_cycle then codes "not before it, in a cycle" else codes "not before it"

-- The place of an object that doesn't stand behind its parent. (own)
abbrev pub before_place : List LabelledChild → ℕ → LabelledChild → List Located
before_place children n c =
    if holds_of (λ p. nat_lt p n) c.parent then []
    else located (on_member (codes "objects") n (codes "parent") (before_words (is_in_cycle children n)))

-- The places of such objects. (own)
abbrev pub before_places : Labelled → List Located
before_places labelled = at_each (before_place labelled.children) 1 labelled.children

-- The place of a subject whose maximum label doesn't dominate its current label. (own)
abbrev pub current_place : ℕ → Subject → List Located
current_place n s =
    if current_fits s then []
    else located (on_member (codes "subjects") n (codes "current") (codes "maximum does not dominate it"))

-- The places of such subjects. (own)
abbrev pub current_places : Labelled → List Located
current_places labelled = at_each current_place 0 labelled.subjects

-- The labels of all objects, the root's first. (own)
abbrev pub object_labels : Labelled → List ObjectLabels
object_labels labelled = labelled.root ∷ map (λ c. c.labels) labelled.children

-- The labels of an object's parent, where it has one among these. (own)
abbrev pub parent_labels : List ObjectLabels → LabelledChild → Option ObjectLabels
parent_labels labels c = having c.parent (λ p. slice_get labels p)

-- The place of an object whose security label doesn't dominate its parent's. (own)
abbrev pub security_place : List ObjectLabels → ℕ → LabelledChild → List Located
security_place labels n c =
    if holds_of (λ p. dominates c.labels.security p.security) (parent_labels labels c) then []
    else located (on_member (codes "objects") n (codes "security") (codes "does not dominate the parent's"))

-- The places of such objects. (own)
abbrev pub security_places : Labelled → List Located
security_places labelled = at_each (security_place (object_labels labelled)) 1 labelled.children

-- The place of an object whose integrity label its parent's doesn't dominate. (own)
abbrev pub integrity_place : List ObjectLabels → ℕ → LabelledChild → List Located
integrity_place labels n c =
    if holds_of (λ p. dominates p.integrity c.labels.integrity) (parent_labels labels c) then []
    else located (on_member (codes "objects") n (codes "integrity") (codes "the parent's does not dominate it"))

-- The places of such objects. (own)
abbrev pub integrity_places : Labelled → List Located
integrity_places labelled = at_each (integrity_place (object_labels labelled)) 1 labelled.children

-- The places of a file by its labels, for a fault that speaks of these and of parents. (own)
abbrev pub labelled_places : StartFault → Labelled → List Located
labelled_places NoSubjects labelled = []
labelled_places TooManySubjects labelled = []
labelled_places TooManyObjects labelled = []
labelled_places BadLabel labelled = []
labelled_places BadParent labelled = before_places labelled
labelled_places CurrentAboveMaximum labelled = current_places labelled
labelled_places NotCompatible labelled = security_places labelled
labelled_places IntegrityAboveParent labelled = integrity_places labelled
labelled_places NoSuchCell labelled = []
labelled_places NotSecure labelled = []

-- What is found of a file by its labels: nothing where a text spells none. (own)
abbrev pub by_labels : (Labelled → List Located) → SaidFile → List Located
by_labels places file = unwrap_or (option_map places (labels_of (names_of file) file)) []

-- The places of a file for a fault that starts have. (own)
abbrev pub start_found : StartFault → SaidFile → List Located
start_found NoSubjects file = located (on_list (codes "subjects") (codes "no subject"))
start_found TooManySubjects file = located (on_list (codes "subjects") (codes "more than 256"))
start_found TooManyObjects file = located (on_list (codes "objects") (codes "more than 4096"))
start_found BadLabel file = by_labels (labelled_places BadLabel) file
start_found BadParent file = by_labels (labelled_places BadParent) file
start_found CurrentAboveMaximum file = by_labels (labelled_places CurrentAboveMaximum) file
start_found NotCompatible file = by_labels (labelled_places NotCompatible) file
start_found IntegrityAboveParent file = by_labels (labelled_places IntegrityAboveParent) file
start_found NoSuchCell file = by_labels (labelled_places NoSuchCell) file
start_found NotSecure file = accesses_found file
