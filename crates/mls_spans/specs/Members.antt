-- The members of the JSON objects of spans, of uses, and of the states in which gets would be granted.
use Rattle.std.specs.Prelude.{ℕ, Bool, List, [], ◌∷◌, ◌++◌, codes, Option, Some, None}
use Rattle.std.specs.List.{flat_map}
use Rattle.json.specs.Token.{Token, boolean, key}
use Rattle.mls_lines.specs.Names.{Names}
use Rattle.mls_marks.specs.declared.row.Row.{Row}
use Rattle.mls_requests.specs.ActionWords.{action_word}
use Rattle.mls_rows.specs.Members.{access_members, list_member, mode_member, null_member, object_of, subject_member}
use Rattle.mls_rows.specs.Members.{text_member, two_members}
use Rattle.mls_rows.specs.Times.{entry_members}
use Rattle.mls_tables.specs.Triples.{Triple}
use Rattle.mls_spans.specs.declared.span.Ending.{Ending}
use Rattle.mls_spans.specs.declared.span.Span.{Span}
use Rattle.mls_spans.specs.declared.usage.Usage.{Usage}
use Rattle.mls_spans.specs.declared.window.Window.{Window}

-- The entry that a span begins with; null of the start. (own)
abbrev pub begin_members : Option (List Row) → Option ℕ → List Token
begin_members rows begin = entry_members (codes "begin") (codes "begin_time") rows begin

-- The entry that a span ends with; null where there is none. (own)
abbrev pub end_members : Option (List Row) → Option ℕ → List Token
end_members rows end = entry_members (codes "end") (codes "end_time") rows end

-- The entry that ended an access, and its word; null where it is held on. (own)
abbrev pub ended_members : Option (List Row) → Option Ending → List Token
ended_members rows None = end_members rows None ++ null_member (codes "by")
ended_members rows (Some ending) =
    end_members rows (Some ending.number) ++ text_member (codes "by") (action_word ending.word)

-- A span in which an access is held. (own)
abbrev pub span_members : Names → Option (List Row) → Span → List Token
span_members names rows span =
    access_members names span.access ++ begin_members rows span.made ++ ended_members rows span.ended

-- A member that is true or false. (own)
abbrev pub truth_member : List ℕ → Bool → List Token
truth_member at so = key at ∷ boolean so ∷ []

-- Whether the first state has an access. (own)
abbrev pub held_member : Bool → List Token
held_member held = truth_member (codes "held_at_start") held

-- A permission, how many of its gets were granted and denied, the last of them, and whether the first state has it as a
-- current access. (own)
abbrev pub usage_members : Names → Option (List Row) → Usage → List Token
usage_members names rows usage =
    access_members names usage.access
    ++ two_members (codes "granted") (codes "denied") usage.uses.granted usage.uses.denied
    ++ entry_members (codes "last") (codes "last_time") rows usage.uses.last ++ held_member usage.is_held

-- How many permissions there are, and how many of them were never granted. (own)
abbrev pub ending_members : ℕ → ℕ → List Token
ending_members count unused = two_members (codes "permissions") (codes "never_granted") count unused

-- A span in which a get would be granted. (own)
abbrev pub window_members : Option (List Row) → Window → List Token
window_members rows window = begin_members rows window.opened ++ end_members rows window.closed

-- The list of such spans. (own)
abbrev pub windows_member : Option (List Row) → List Window → List Token
windows_member rows found =
    list_member (codes "spans") (flat_map (λ window. object_of (window_members rows window)) found)

-- An access of the object that is asked about, and the spans in which its get would be granted. (own)
abbrev pub ever_members : Names → Option (List Row) → Triple → List Window → List Token
ever_members names rows t found =
    subject_member (codes "subject") (codes "subject_name") names t.0 ++ mode_member (codes "mode") t.2
    ++ windows_member rows found
