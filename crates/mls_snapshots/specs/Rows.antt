-- What one line of the text of a state says: rows, and their lines.
use Rattle.std.specs.Prelude.{ℕ, ◌<◌, ◌≤◌, Bool, true, false, List, [], ◌∷◌, ◌++◌, length, codes}
use Rattle.std.specs.Prelude.{Option, Some, None, IfSome}
use Rattle.std.specs.Fmt.{decimal}
use Rattle.std.specs.List.{list_all}
use Rattle.mls_labels.specs.Label.{Label}
use Rattle.mls_lines.specs.Labels.{is_label_byte}
use Rattle.mls_lines.specs.Names.{Names}
use Rattle.mls_requests.specs.ModeWords.{mode_word}
use Rattle.mls_state.specs.declared.table.Table.{Table}
use Rattle.mls_tables.specs.declared.mode.Mode.{Mode}
use Rattle.mls_tables.specs.declared.limits.TheConstants.{MAX_SUBJECTS, MAX_OBJECTS}
use Rattle.mls_tree.specs.declared.profile.Profile.{Profile}
use Rattle.mls_wording.specs.ReadBack.{IsOf}
use Rattle.mls_wording.specs.Wording.{subject_text, object_text, security_text, integrity_text}
use Rattle.mls_snapshots.specs.States.{profile_number, word_of}
use Rattle.mls_snapshots.specs.declared.state_line.StateLine.{StateLine}
use Rattle.mls_snapshots.specs.declared.state_line.StateLine.TheVariants as line

-- What a line says: the profile, the next number, a subject with its labels and whether it is trusted, an object with
-- its labels and its parent, or a triple of a table. (own)
pub data Row : Type 0 where
  Kind : Profile → Row
  Next : ℕ → Row
  Subject : ℕ → Label → Label → Label → Bool → Row
  Object : ℕ → Label → Label → Option ℕ → Row
  Triple : Table → ℕ → ℕ → Mode → Row

-- A word and more words, with one space between each two. (own)
abbrev pub spaced : List ℕ → List (List ℕ) → List ℕ
spaced t [] = t
spaced t (u ∷ us) = t ++ 32 ∷ spaced u us

-- Words with one space between each two. (own)
abbrev pub words_line : List (List ℕ) → List ℕ
words_line [] = []
words_line (t ∷ ts) = spaced t ts

-- Each byte of each word is seen when printed. (own)
abbrev pub are_seen : List (List ℕ) → Bool
are_seen words = list_all (list_all is_label_byte) words

-- The first word of a row's line. (own)
abbrev pub first_of : Row → List ℕ
first_of (Kind p) = codes "profile"
first_of (Next n) = codes "next"
first_of (Subject s m c i t) = codes "subject"
first_of (Object o l i p) = codes "object"
first_of (Triple table s o x) = word_of table

-- The word of a subject that is trusted. (own)
abbrev pub trust_tokens : Bool → List (List ℕ)
trust_tokens true = codes "trusted" ∷ []
trust_tokens false = []

-- The words of an object's parent. (own)
abbrev pub parent_tokens : Names → Option ℕ → List (List ℕ)
parent_tokens names None = []
parent_tokens names (Some p) = codes "parent" ∷ object_text names p ∷ []

-- The other words of a row's line. (own)
abbrev pub rest_of : Names → Row → List (List ℕ)
rest_of names (Kind p) = decimal (profile_number p) ∷ []
rest_of names (Next n) = decimal n ∷ []
rest_of names (Subject s m c i t) =
    subject_text names s ∷ codes "maximum" ∷ security_text names m ∷ codes "current" ∷ security_text names c
    ∷ codes "integrity" ∷ integrity_text names i ∷ trust_tokens t
rest_of names (Object o l i p) =
    object_text names o ∷ codes "security" ∷ security_text names l ∷ codes "integrity" ∷ integrity_text names i
    ∷ parent_tokens names p
rest_of names (Triple table s o x) = subject_text names s ∷ mode_word x ∷ object_text names o ∷ []

-- The words of a row's line. (own)
abbrev pub words_of : Names → Row → List (List ℕ)
words_of names row = first_of row ∷ rest_of names row

-- The line of a row, without its newline. (own)
abbrev pub row_line : Names → Row → List ℕ
row_line names row = spaced (first_of row) (rest_of names row)

-- What a line of the program says of a row. (own)
abbrev pub said_of : Row → StateLine
said_of (Kind p) = line.Profile p
said_of (Next n) = line.Next n
said_of (Subject s m c i t) = line.Subject (record { maximum = m; current = c; integrity = i; trusted = t })
said_of (Object o l i p) = line.Object o (record { labels = record { security = l; integrity = i }; parent = p })
said_of (Triple table s o x) = line.Triple table (s, o, x)

-- A subject has a name. (own)
abbrev pub IsNamedSubject : Names → ℕ → Type 0
IsNamedSubject names s = (s < length names.subjects) × (s < MAX_SUBJECTS)

-- A row is within what is read: its subject has a name, its numbers are those of objects, and its labels are within the
-- bounds of the schemes. (own)
abbrev pub IsWithin : Names → Row → Type 0
IsWithin names (Kind p) = Unit {0}
IsWithin names (Next n) = n ≤ MAX_OBJECTS
IsWithin names (Subject s m c i t) =
    IsNamedSubject names s × IsOf names.security m × IsOf names.security c × IsOf names.integrity i
IsWithin names (Object o l i p) =
    (o < MAX_OBJECTS) × IsOf names.security l × IsOf names.integrity i × IfSome p (λ q. q < MAX_OBJECTS)
IsWithin names (Triple table s o x) = IsNamedSubject names s × (o < MAX_OBJECTS)

-- Each of some rows is within what is read. (own)
abbrev pub AllWithin : Names → List Row → Type 0
AllWithin names [] = Unit {0}
AllWithin names (row ∷ rows) = IsWithin names row × AllWithin names rows

-- The lines of rows. (own)
abbrev pub joined : Names → List Row → List ℕ
joined names [] = []
joined names (row ∷ rows) = row_line names row ++ 10 ∷ joined names rows
