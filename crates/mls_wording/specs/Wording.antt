-- What is written of subjects, objects and labels by the names of a start.
use Rattle.std.specs.Prelude.{ℕ, List, ◌∷◌, ◌++◌, map, Option, Some, None, slice_get, if◌then◌else◌}
use Rattle.std.specs.Fmt.{decimal}
use Rattle.mls_labels.specs.Ascending.{ascending}
use Rattle.mls_labels.specs.Label.{Label, has_label}
use Rattle.mls_labels.specs.LabelText.{words_after, written}
use Rattle.mls_labels.specs.Scheme.{Scheme, bounds_of}
use Rattle.mls_lines.specs.Names.{Names}

-- `#` and a number. No name has a `#`. (own)
abbrev pub numbered : ℕ → List ℕ
numbered n = 35 ∷ decimal n

-- A name, or `#` and the number of what has none. (own)
abbrev pub name_or : Option (List ℕ) → ℕ → List ℕ
name_or (Some name) n = name
name_or None n = numbered n

-- What is written of a subject: the name that the start has for its number, or `#` and the number. (own)
abbrev pub subject_text : Names → ℕ → List ℕ
subject_text names s = name_or (slice_get names.subjects s) s

-- What is written of an object: the name that the start has for its number, or `#` and the number. (own)
abbrev pub object_text : Names → ℕ → List ℕ
object_text names o = name_or (slice_get names.objects o) o

-- A label by numbers: its level, and after a colon its categories, ascending, with commas between them, each number
-- with a `#` before it. (own)
abbrev pub label_numbers : Label → List ℕ
label_numbers l = numbered l.level ++ words_after 58 (map numbered (ascending l.categories))

-- What is written of a label: its text in the scheme, or its numbers where it isn't within the scheme's bounds. (own)
abbrev pub label_within : Scheme → Label → List ℕ
label_within scheme l = if has_label (bounds_of scheme) l then written scheme l else label_numbers l

-- What is written of a security label. (own)
abbrev pub security_text : Names → Label → List ℕ
security_text names l = label_within names.security l

-- What is written of an integrity label. (own)
abbrev pub integrity_text : Names → Label → List ℕ
integrity_text names i = label_within names.integrity i
