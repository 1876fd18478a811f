-- How a line of a state's text is read, word by word. What it means is said in Rows.
use Rattle.std.specs.Prelude.{ℕ, Bool, List, [], ◌∷◌, codes, Option, Some, None, if◌then◌else◌, ◌==◌}
use Rattle.std.specs.Prelude.{option_map}
use Rattle.std.specs.Option.{option_and_then}
use Rattle.std.specs.Result.{result_ok}
use Rattle.std.specs.Str.{bytes_eq}
use Rattle.mls_facts.specs.Decimals.{decimal_within}
use Rattle.mls_labels.specs.Label.{Label}
use Rattle.mls_labels.specs.Reading.{place_of, label_at}
use Rattle.mls_labels.specs.Scheme.{Scheme}
use Rattle.mls_lines.specs.Names.{Names}
use Rattle.mls_requests.specs.ModeWords.{read_mode}
use Rattle.mls_state.specs.declared.subject.Subject.{Subject}
use Rattle.mls_state.specs.declared.table.Table.TheVariants.{Matrix, Accesses}
use Rattle.mls_tables.specs.Triples.{Triple}
use Rattle.mls_tables.specs.declared.limits.TheConstants.{MAX_OBJECTS}
use Rattle.mls_tables.specs.declared.mode.Mode.{Mode}
use Rattle.mls_tree.specs.declared.profile.Profile.{Profile}
use Rattle.mls_tree.specs.declared.profile.Profile.TheVariants.{One, Two}
use Rattle.mls_snapshots.specs.declared.state_line.ObjectParts.{ObjectParts}
use Rattle.mls_snapshots.specs.declared.state_line.StateLine.{StateLine}
use Rattle.mls_snapshots.specs.declared.state_line.StateLine.TheVariants as line

-- What stands before the first of a byte; all where there is none. (own)
unfoldable pub front : ℕ → List ℕ → List ℕ
front c [] = []
front c (b ∷ text) = if b == c then [] else b ∷ front c text

-- What stands behind the first of a byte; nothing where there is none. (own)
unfoldable pub behind : ℕ → List ℕ → List ℕ
behind c [] = []
behind c (b ∷ text) = if b == c then text else behind c text

-- The word behind a key, and what stands behind it. (own)
abbrev pub keyed_in : List ℕ → List ℕ → Option (List ℕ × List ℕ)
keyed_in text key =
    if bytes_eq (front 32 text) key then Some (front 32 (behind 32 text), behind 32 (behind 32 text)) else None

-- The object of a word: by its number behind a `#`, or by its name. (own)
abbrev pub object_in : Names → List ℕ → Option ℕ
object_in names [] = place_of names.objects []
object_in names (b ∷ word) =
    if b == 35 then decimal_within MAX_OBJECTS word else place_of names.objects (b ∷ word)

-- The label of a word. (own)
abbrev pub label_in : Scheme → List ℕ → Option Label
label_in scheme word = result_ok (label_at scheme word)

-- The profile of a word. (own)
abbrev pub profile_in : List ℕ → Option Profile
profile_in word = if bytes_eq word (codes "1") then Some One else if bytes_eq word (codes "2") then Some Two else None

-- A subject of these labels. (own)
abbrev pub subject_with : Option Label → Option Label → Option Label → Bool → Option Subject
subject_with (Some m) (Some c) (Some i) trusted =
    Some (record { maximum = m; current = c; integrity = i; trusted = trusted })
subject_with (Some m) (Some c) None trusted = None
subject_with (Some m) None i trusted = None
subject_with None c i trusted = None

-- What is said of a subject behind its name. (own)
abbrev pub subject_in : Names → List ℕ → Option Subject
subject_in names text =
    option_and_then (λ maximum. option_and_then (λ current. option_and_then (λ own.
    subject_with (label_in names.security maximum.0) (label_in names.security current.0)
    (label_in names.integrity own.0) (bytes_eq own.1 (codes "trusted")))
    (keyed_in current.1 (codes "integrity"))) (keyed_in maximum.1 (codes "current"))) (keyed_in text (codes "maximum"))

-- The parent that a text says behind its key: none where the key isn't there. (own)
abbrev pub parent_with : Names → Option (List ℕ × List ℕ) → Option (Option ℕ)
parent_with names None = Some None
parent_with names (Some p) = option_map (λ o. Some o) (object_in names p.0)

-- The parent that a text says. (own)
abbrev pub parent_in : Names → List ℕ → Option (Option ℕ)
parent_in names text = parent_with names (keyed_in text (codes "parent"))

-- The parts of an object. (own)
abbrev pub parts_with : Option Label → Option Label → Option (Option ℕ) → Option ObjectParts
parts_with (Some l) (Some i) (Some p) = Some (record { labels = record { security = l; integrity = i }; parent = p })
parts_with (Some l) (Some i) None = None
parts_with (Some l) None p = None
parts_with None i p = None

-- What is said of an object behind its name. (own)
abbrev pub parts_in : Names → List ℕ → Option ObjectParts
parts_in names text =
    option_and_then (λ label. option_and_then (λ own.
    parts_with (label_in names.security label.0) (label_in names.integrity own.0) (parent_in names own.1))
    (keyed_in label.1 (codes "integrity"))) (keyed_in text (codes "security"))

-- A line of an object. (own)
abbrev pub object_with : Option ℕ → Option ObjectParts → Option StateLine
object_with (Some o) (Some parts) = Some (line.Object o parts)
object_with (Some o) None = None
object_with None parts = None

-- A triple of a subject, an object and a mode. (own)
abbrev pub triple_with : Option ℕ → Option ℕ → Option Mode → Option Triple
triple_with (Some s) (Some o) (Some x) = Some (s, o, x)
triple_with (Some s) (Some o) None = None
triple_with (Some s) None x = None
triple_with None o x = None

-- The triple that a text says: a subject, a mode and an object. (own)
abbrev pub triple_in : Names → List ℕ → Option Triple
triple_in names text =
    triple_with (place_of names.subjects (front 32 text)) (object_in names (behind 32 (behind 32 text)))
    (read_mode (front 32 (behind 32 text)))

-- What a line says by its first word and what stands behind it. (own)
abbrev pub said_behind : Names → List ℕ → List ℕ → Option StateLine
said_behind names word text =
    if bytes_eq word (codes "profile") then option_map (λ p. line.Profile p) (profile_in text)
    else if bytes_eq word (codes "next") then option_map (λ n. line.Next n) (decimal_within MAX_OBJECTS text)
    else if bytes_eq word (codes "subject") then
    option_map (λ s. line.Subject s) (subject_in names (behind 32 text))
    else if bytes_eq word (codes "object") then
    object_with (object_in names (front 32 text)) (parts_in names (behind 32 text))
    else if bytes_eq word (codes "permit") then option_map (λ t. line.Triple Matrix t) (triple_in names text)
    else if bytes_eq word (codes "access") then option_map (λ t. line.Triple Accesses t) (triple_in names text)
    else None

-- What a line says. (own)
abbrev pub said_in : Names → List ℕ → Option StateLine
said_in names text = said_behind names (front 32 text) (behind 32 text)
