-- How trust is used: the entries that it grants, by the subject that asks.
use Rattle.std.specs.Prelude.{ℕ, Bool, ◌==◌, ◌&&◌, List, [], ◌∷◌, ◌++◌, codes, filter, length, Option, Some, None}
use Rattle.std.specs.Prelude.{if◌then◌else◌}
use Rattle.std.specs.Fmt.{decimal}
use Rattle.std.specs.FinSet as set
use Rattle.std.specs.List.{flat_map, range_with_len}
use Rattle.json.specs.Token.{Token}
use Rattle.mls_lines.specs.Names.{Names}
use Rattle.mls_listings.specs.Trusted.{trusted_over}
use Rattle.mls_marks.specs.declared.row.Row.{Row}
use Rattle.mls_requests.specs.declared.entry.Entry.{Entry}
use Rattle.mls_rows.specs.Members.{number_member, subject_member}
use Rattle.mls_rows.specs.Rows.{row_bytes}
use Rattle.mls_rows.specs.Times.{entry_members}
use Rattle.mls_rows.specs.declared.form.Form.{Form}
use Rattle.mls_state.specs.State.{State, is_subject}
use Rattle.mls_tables.specs.declared.limits.TheConstants.{MAX_SUBJECTS}
use Rattle.mls_wording.specs.Wording.{subject_text}
use Rattle.mls_spans.specs.EntryText.{entry_text}
use Rattle.mls_spans.specs.declared.trust.TrustUse.{TrustUse}

-- A subject asked an entry. (own)
abbrev pub is_asked_by : ℕ → Entry → Bool
is_asked_by s e = e.request.subject == s

-- The number of the last of some entries; without any, this one, where there is one. (own)
abbrev pub last_entry : Option ℕ → List Entry → Option ℕ
last_entry known [] = known
last_entry known (e ∷ rest) = last_entry (Some e.number) rest

-- How often a subject's trust was used, by the entries that trust granted. (own)
abbrev pub trust_of : List Entry → ℕ → TrustUse
trust_of granted s = record {
  subject = s;
  count = length (filter (is_asked_by s) granted);
  last = last_entry None (filter (is_asked_by s) granted);
}

-- A known subject is trusted. (own)
abbrev pub is_trusted : State → ℕ → Bool
is_trusted v s = is_subject v s && set.contains v.trusted s

-- The use of a subject's trust, where it is trusted. (own)
abbrev pub trust_where : State → List Entry → ℕ → List TrustUse
trust_where v granted s = if is_trusted v s then trust_of granted s ∷ [] else []

-- How the trust in each subject was used over entries from a state, by subject. (own)
abbrev pub trust_uses : State → List Entry → List TrustUse
trust_uses v entries = flat_map (trust_where v (trusted_over v entries)) (range_with_len 0 MAX_SUBJECTS)

-- How often trust was used, and last when. (own)
abbrev pub count_text : Option (List Row) → ℕ → Option ℕ → List ℕ
count_text rows n None = codes "never used"
count_text rows n (Some number) = decimal n ++ codes " granted, last " ++ entry_text rows number

-- The line of a subject's trust. (own)
abbrev pub trust_line : Names → Option (List Row) → TrustUse → List ℕ
trust_line names rows u =
    subject_text names u.subject ++ codes " trust: " ++ count_text rows u.count u.last ++ codes "\n"

-- The members of a subject's trust: how many entries it granted, and the last of them. (own)
abbrev pub trust_members : Names → Option (List Row) → TrustUse → List Token
trust_members names rows u =
    subject_member (codes "subject") (codes "subject_name") names u.subject ++ number_member (codes "by_trust") u.count
    ++ entry_members (codes "last") (codes "last_time") rows u.last

-- A subject's trust in a form. (own)
abbrev pub trust_row : Form → Names → Option (List Row) → TrustUse → List ℕ
trust_row form names rows u = row_bytes form (trust_line names rows u) (trust_members names rows u)

-- The trust in subjects in a form. (own)
abbrev pub trust_bytes : Form → Names → Option (List Row) → List TrustUse → List ℕ
trust_bytes form names rows uses = flat_map (trust_row form names rows) uses
