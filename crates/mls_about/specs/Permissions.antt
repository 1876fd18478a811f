-- What is written of the permissions of a subject.
use Rattle.std.specs.Prelude.{◌≡◌, ℕ, Bool, List, [], ◌∷◌, ◌++◌, codes, map, All, if◌then◌else◌}
use Rattle.std.specs.List.{flat_map, range_with_len}
use Rattle.json.specs.Token.{Token}
use Rattle.mls_explain.specs.Prospects.{IsProspect}
use Rattle.mls_explain_text.specs.Who.{outcome_line, releases_of}
use Rattle.mls_explain_text.specs.WhoMembers.{outcome_members}
use Rattle.mls_lines.specs.Names.{Names}
use Rattle.mls_requests.specs.ModeWords.{mode_word}
use Rattle.mls_rows.specs.Members.{access_members}
use Rattle.mls_rows.specs.declared.form.Form.{Form}
use Rattle.mls_shared_rows.specs.Kinds.{kind_bytes}
use Rattle.mls_state.specs.State.{State}
use Rattle.mls_tables.specs.Once.{accesses_at}
use Rattle.mls_tables.specs.Triples.{Triple}
use Rattle.mls_tables.specs.declared.limits.TheConstants.{MAX_OBJECTS}
use Rattle.mls_wording.specs.Wording.{subject_text, object_text}
use Rattle.mls_about.specs.declared.permission.Permission.{Permission}

-- The triple of a permission. (own)
abbrev pub triple_of : Permission → Triple
triple_of p = (p.prospect.subject, p.object, p.prospect.mode)

-- A triple where something is so, else none. (own)
abbrev pub where_so : Bool → Triple → List Triple
where_so so t = if so then t ∷ [] else []

-- What is told of a permission is so: the reply to its get, and what it would take. (own)
abbrev pub IsTold : State → Permission → Type 0
IsTold v p = IsProspect v p.object p.prospect

-- The line of a permission, with what `who` says of it and with what is to be released. (own)
abbrev pub permission_line : Names → Permission → List Triple → List ℕ
permission_line names p releases =
    codes "permit " ++ subject_text names p.prospect.subject ++ codes " " ++ mode_word p.prospect.mode ++ codes " "
    ++ object_text names p.object ++ codes ": " ++ outcome_line names p.prospect releases

-- The members of a permission: those of an access, and what becomes of its get, with what is to be released. (own)
abbrev pub permission_members : Names → Permission → List Triple → List Token
permission_members names p releases =
    access_members names (triple_of p) ++ outcome_members names p.prospect.reply p.prospect.way releases

-- The row of a permission in a state, in a form. (own)
abbrev pub permission_bytes : Form → Names → State → Permission → List ℕ
permission_bytes form names v p =
    kind_bytes form (codes "permit") (permission_line names p (releases_of v p.prospect))
    (permission_members names p (releases_of v p.prospect))

-- The rows of permissions in a state, in a form. (own)
abbrev pub permit_bytes : Form → Names → State → List Permission → List ℕ
permit_bytes form names v found = flat_map (permission_bytes form names v) found

-- The permissions of a subject on the objects below a number, by object, then in the order of modes. (own)
unfoldable pub permitted : State → ℕ → ℕ → List Triple
permitted v s n = flat_map (accesses_at v.matrix s) (range_with_len 0 n)

-- These are just the permissions of a subject, each with the reply to its get, and what it would take. (own)
pub record ArePermissions (v : State) (s : ℕ) (found : List Permission) : Type 0 where
  pub triples : map triple_of found ≡ permitted v s MAX_OBJECTS
  pub each : All (IsTold v) found
