-- What is wrong with the rows of a start.
use Rattle.std.specs.Prelude.{ℕ, suc, Bool, true, not, ◌&&◌, ◌==◌, nat_lt, List, [], ◌∷◌, length, slice_get, Option}
use Rattle.std.specs.Prelude.{Some, None, if◌then◌else◌}
use Rattle.std.specs.List.{list_all}
use Rattle.mls_facts.specs.Each.{each}
use Rattle.mls_facts.specs.Numbered.{holds_of}
use Rattle.mls_labels.specs.Label.{Bounds, dominates, has_label}
use Rattle.mls_tables.specs.Triples.{Triple}
use Rattle.mls_tables.specs.declared.limits.TheConstants.{MAX_SUBJECTS, MAX_OBJECTS}
use Rattle.mls_state.specs.declared.subject.Subject.{Subject}
use Rattle.mls_state.specs.declared.subject.ObjectLabels.{ObjectLabels}
use Rattle.mls_start.specs.declared.object_row.ObjectRow.{ObjectRow}
use Rattle.mls_state.specs.declared.start_fault.StartFault.{StartFault}
use Rattle.mls_state.specs.declared.start_fault.StartFault.TheVariants.{NoSubjects, TooManySubjects, TooManyObjects}
use Rattle.mls_state.specs.declared.start_fault.StartFault.TheVariants.{BadLabel, BadParent, CurrentAboveMaximum}
use Rattle.mls_state.specs.declared.start_fault.StartFault.TheVariants.{NotCompatible, IntegrityAboveParent}
use Rattle.mls_state.specs.declared.start_fault.StartFault.TheVariants.{NoSuchCell, NotSecure}
use Rattle.mls_state.specs.Audit.{access_holds}
use Rattle.mls_start.specs.Rows.{Rows, object_count, labels_of, opening}

-- A subject's labels are within the bounds of security and of integrity. (own)
abbrev pub subject_within : Bounds → Bounds → Subject → Bool
subject_within security integrity s = has_label security s.maximum
    && (has_label security s.current && has_label integrity s.integrity)

-- An object's labels are within the bounds of security and of integrity. (own)
abbrev pub labels_within : Bounds → Bounds → ObjectLabels → Bool
labels_within security integrity o = has_label security o.security && has_label integrity o.integrity

-- Each label of the rows is within its bounds. (own)
abbrev pub labels_fit : Rows → Bool
labels_fit rows =
    list_all (subject_within rows.security rows.integrity) rows.subjects
    && (labels_within rows.security rows.integrity rows.root
    && list_all (λ o. labels_within rows.security rows.integrity o.labels) rows.objects)

-- Of objects that are numbered from n on, each has a parent of a smaller number than its own. (own)
abbrev pub parents_before : ℕ → List ObjectRow → Bool
parents_before n [] = true
parents_before n (o ∷ objects) = nat_lt o.parent n && parents_before (suc n) objects

-- A subject's maximum label dominates its current label. (MTR-2997, the two components of a subject's level)
abbrev pub current_fits : Subject → Bool
current_fits s = dominates s.maximum s.current

-- The labels of an object's parent, where the object has one in a list of all objects' labels. (own)
abbrev pub parent_labels : List ObjectLabels → ObjectRow → Option ObjectLabels
parent_labels labels o = slice_get labels o.parent

-- An object's security label dominates its parent's. (MTR-2997, compatibility)
abbrev pub security_fits : List ObjectLabels → ObjectRow → Bool
security_fits labels o = holds_of (λ parent. dominates o.labels.security parent.security) (parent_labels labels o)

-- The integrity label of an object's parent dominates the object's. (own)
abbrev pub integrity_fits : List ObjectLabels → ObjectRow → Bool
integrity_fits labels o = holds_of (λ parent. dominates parent.integrity o.labels.integrity) (parent_labels labels o)

-- A triple names one of so many subjects and one of so many objects. (own)
abbrev pub is_cell : ℕ → ℕ → Triple → Bool
is_cell subjects objects (s, o, x) = nat_lt s subjects && nat_lt o objects

-- Each access of the rows names a subject and an object of them. (own)
abbrev pub has_known_accesses : Rows → Bool
has_known_accesses rows = each rows.accesses (is_cell (length rows.subjects) (object_count rows))

-- What is wrong with the accesses of rows of which all else is right: one breaks simple security, star, discretionary
-- security or integrity in the state that opens with the rows. (own)
abbrev pub access_fault : Rows → Option StartFault
access_fault rows = if not (each rows.accesses (access_holds (opening rows))) then Some NotSecure else None

-- What is wrong with the rows: the first, in the order of the faults, that applies to any of them. (own)
abbrev pub start_fault : Rows → Option StartFault
start_fault rows =
    if length rows.subjects == 0 then Some NoSubjects
    else if nat_lt MAX_SUBJECTS (length rows.subjects) then Some TooManySubjects
    else if nat_lt MAX_OBJECTS (object_count rows) then Some TooManyObjects
    else if not (labels_fit rows) then Some BadLabel
    else if not (parents_before 1 rows.objects) then Some BadParent
    else if not (list_all current_fits rows.subjects) then Some CurrentAboveMaximum
    else if not (list_all (security_fits (labels_of rows)) rows.objects) then Some NotCompatible
    else if not (list_all (integrity_fits (labels_of rows)) rows.objects) then Some IntegrityAboveParent
    else if not (each rows.cells (is_cell (length rows.subjects) (object_count rows))) then Some NoSuchCell
    else if not (has_known_accesses rows) then Some NoSuchCell
    else access_fault rows
