-- What is listed of the entries that are about a subject's permissions, or changed an object.
use Rattle.std.specs.Prelude.{ℕ, ◌==◌, ◌&&◌, ◌||◌, not, Bool, false, List, [], ◌∷◌, ◌++◌, codes, Option, if◌then◌else◌}
use Rattle.std.specs.List.{flat_map}
use Rattle.json.specs.Token.{Token}
use Rattle.mls_explain_text.specs.AnswerMembers.{reply_members}
use Rattle.mls_explain_text.specs.Responses.{is_granted}
use Rattle.mls_lines.specs.Names.{Names}
use Rattle.mls_marks.specs.declared.row.Row.{Row}
use Rattle.mls_listings.specs.Listings.{stamped_line}
use Rattle.mls_listings.specs.Matching.{is_permitted}
use Rattle.mls_requests.specs.declared.action.Action.{Action}
use Rattle.mls_requests.specs.declared.action.Action.TheVariants.{Get, Release, Give, Rescind, Create, Delete}
use Rattle.mls_requests.specs.declared.action.Action.TheVariants.{SubjectLevel, ObjectLevel}
use Rattle.mls_requests.specs.declared.entry.Entry.{Entry}
use Rattle.mls_rows.specs.Members.{two_members}
use Rattle.mls_rows.specs.Times.{time_members}
use Rattle.mls_rows.specs.declared.form.Form.{Form}
use Rattle.mls_rules.specs.Rules.{after}
use Rattle.mls_shared_rows.specs.Kinds.{kind_bytes}
use Rattle.mls_shared_rows.specs.Requests.{asked_members}
use Rattle.mls_state.specs.State.{State, is_active}
use Rattle.mls_wording.specs.Where.{only_if}

-- The members of an entry: its time where times are told, its number and its session, what was asked, and the reply.
-- (own)
abbrev pub entry_members : Names → Option (List Row) → Entry → List Token
entry_members names rows e =
    time_members (codes "time") rows e.number ++ two_members (codes "number") (codes "session") e.number e.session
    ++ asked_members names e.request ++ reply_members e.reply

-- The row of an entry, in a form: the line that `journal` has for it, or its object. (own)
abbrev pub entry_bytes : Form → Names → Option (List Row) → Entry → List ℕ
entry_bytes form names rows e =
    kind_bytes form (codes "entry") (stamped_line names rows e) (entry_members names rows e)

-- The row of an entry that asks for a permission for a subject, or that it be rescinded, whatever the reply; none of
-- another. (own)
abbrev pub given_entry : Form → Names → Option (List Row) → ℕ → Entry → List ℕ
given_entry form names rows s e = only_if (is_permitted s e.request.action) (entry_bytes form names rows e)

-- The rows of the entries that ask for a permission for a subject, or that it be rescinded. (own)
abbrev pub given_bytes : Form → Names → Option (List Row) → ℕ → List Entry → List ℕ
given_bytes form names rows s entries = flat_map (given_entry form names rows s) entries

-- An action gives a permission on an object, rescinds one, or relabels it. (own)
abbrev pub is_on : ℕ → Action → Bool
is_on o (Get x a) = false
is_on o (Release x a) = false
is_on o (Give x s a) = a == o
is_on o (Rescind x s a) = a == o
is_on o (Create p security integrity) = false
is_on o (Delete a) = false
is_on o (SubjectLevel l) = false
is_on o (ObjectLevel a l) = a == o

-- Of two answers one is yes and one no. (own)
abbrev pub differ : Bool → Bool → Bool
differ a b = if a then not b else b

-- An entry between two states changed an object: it gave a permission on it, rescinded one, or relabelled it, and was
-- granted; or it made the object, or deleted it or what it was below, so that it is active in one of the states alone.
-- (own)
abbrev pub has_changed : State → State → ℕ → Entry → Bool
has_changed v w o e = is_granted e.reply && is_on o e.request.action || differ (is_active v o) (is_active w o)

-- The row of the entry behind a state, where it changed an object; none of another. (own)
abbrev pub changed_entry : Form → Names → Option (List Row) → State → ℕ → Entry → List ℕ
changed_entry form names rows v o e =
    only_if (has_changed v (after v e.request) o e) (entry_bytes form names rows e)

-- The rows of the entries behind a state that changed an object. (own)
abbrev pub changed_bytes : Form → Names → Option (List Row) → State → ℕ → List Entry → List ℕ
changed_bytes form names rows v o [] = []
changed_bytes form names rows v o (e ∷ entries) =
    changed_entry form names rows v o e ++ changed_bytes form names rows (after v e.request) o entries
