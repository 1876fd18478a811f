-- Accesses that the matrix doesn't permit, and that could be brought about.
use Rattle.std.specs.Prelude.{◌≡◌, ◌==◌, ◌-◌, ℕ, Bool, not, ◌&&◌, nat_lt, List, [], ◌∷◌, ◌++◌}
use Rattle.std.specs.Prelude.{codes, filter, length, take, if◌then◌else◌}
use Rattle.std.specs.Fmt.{decimal}
use Rattle.std.specs.FinSet as set
use Rattle.std.specs.List.{flat_map, range_with_len}
use Rattle.json.specs.Token.{Token}
use Rattle.mls_tables.specs.Triples.{Triple}
use Rattle.mls_tables.specs.declared.limits.TheConstants.{MAX_OBJECTS}
use Rattle.mls_tables.specs.declared.mode.Mode.TheVariants.{Execute, Read, Append, Write}
use Rattle.mls_requests.specs.ModeWords.{mode_word}
use Rattle.mls_lines.specs.Names.{Names}
use Rattle.mls_state.specs.State.{State, is_subject}
use Rattle.mls_rows.specs.Members.{access_members, number_member, text_member}
use Rattle.mls_rows.specs.Rows.{row_bytes}
use Rattle.mls_rows.specs.declared.form.Form.{Form}
use Rattle.mls_wording.specs.Wording.{object_text, subject_text}
use Rattle.mls_could.specs.Outsets.{Decides}

-- The accesses of a subject to an object, by mode. (own)
abbrev pub accesses_to : ℕ → ℕ → List Triple
accesses_to s o = (s, o, Execute) ∷ (s, o, Read) ∷ (s, o, Append) ∷ (s, o, Write) ∷ []

-- The accesses of a subject, by object and mode. (own)
unfoldable pub accesses_by : ℕ → List Triple
accesses_by s = flat_map (accesses_to s) (range_with_len 0 MAX_OBJECTS)

-- The accesses of so many subjects, by subject, object and mode. (own)
abbrev pub accesses_of : ℕ → List Triple
accesses_of subjects = flat_map accesses_by (range_with_len 0 subjects)

-- The subjects that are known and not trusted. (own)
abbrev pub is_untrusted : State → ℕ → Bool
is_untrusted v s = is_subject v s && not (set.contains v.trusted s)

-- Whether the matrix doesn't permit an access and it could be got, by a test of the latter. (own)
abbrev pub is_lacking : State → (Triple → Bool) → Triple → Bool
is_lacking v test t = not (set.contains v.matrix t) && test t

-- Accesses are just those that the matrix doesn't permit and that actors could get, by subject, object and mode. (own)
pub record AreBrought (v : State) (acts : ℕ → Bool) (found : List Triple) : Type 0 where
  pub test : Triple → Bool
  pub right : Decides test v acts
  pub subjects : ℕ
  pub known : (s : ℕ) → is_subject v s ≡ nat_lt s subjects
  pub all : found ≡ filter (is_lacking v test) (accesses_of subjects)

-- How many accesses have a line each. (own)
abbrev pub most_lines : ℕ
most_lines = 20

-- Which finding it is. (own)
abbrev pub could_member : List Token
could_member = text_member (codes "finding") (codes "could")

-- What is written of an access: its subject, its mode and its object. (own)
abbrev pub access_text : Names → Triple → List ℕ
access_text names t =
    subject_text names t.0 ++ codes " " ++ mode_word t.2 ++ codes " " ++ object_text names t.1

-- The line of an access. (own)
abbrev pub brought_line : Names → Triple → List ℕ
brought_line names t = codes "could: " ++ access_text names t ++ codes ", by untrusted subjects\n"

-- Its members. (own)
abbrev pub brought_members : Names → Triple → List Token
brought_members names t = could_member ++ access_members names t

-- The line of how many accesses there are beyond those that have one. (own)
abbrev pub more_line : ℕ → List ℕ
more_line more = codes "could: " ++ decimal more ++ codes " more, by untrusted subjects\n"

-- Its members. (own)
abbrev pub more_members : ℕ → List Token
more_members more = could_member ++ number_member (codes "more") more

-- The row of it, where there are more. (own)
abbrev pub more_bytes : Form → ℕ → List ℕ
more_bytes form more = if more == 0 then [] else row_bytes form (more_line more) (more_members more)

-- The rows of accesses, in a form: of the first of them, and how many there are beyond. (own)
abbrev pub brought_bytes : Names → Form → List Triple → List ℕ
brought_bytes names form found =
    flat_map (λ t. row_bytes form (brought_line names t) (brought_members names t)) (take most_lines found)
    ++ more_bytes form (length found - most_lines)

-- The bytes of an answer and whether it is positive tell what untrusted subjects could bring about that isn't
-- permitted; it is positive where there is nothing. (own)
pub record TellsBrought (names : Names) (v : State) (form : Form) (told : List ℕ) (positive : Bool) : Type 0 where
  pub found : List Triple
  pub brought : AreBrought v (is_untrusted v) found
  pub bytes : told ≡ brought_bytes names form found
  pub none : positive ≡ (length found == 0)
