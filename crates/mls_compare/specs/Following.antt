-- The requests of a journal, asked of another start one after the other.
use Rattle.std.specs.Prelude.{ℕ, ◌==◌, List, [], ◌∷◌, ◌++◌, map, set, Option, Some, None, if◌then◌else◌}
use Rattle.mls_tables.specs.declared.limits.TheConstants.{MAX_OBJECTS}
use Rattle.mls_requests.specs.declared.entry.Entry.{Entry}
use Rattle.mls_requests.specs.declared.reply.Reply.{Reply}
use Rattle.mls_requests.specs.declared.reply.Reply.TheVariants.{Yes, Created, No, Undefined}
use Rattle.mls_requests.specs.declared.request.Request.{Request}
use Rattle.mls_state.specs.State.{State}
use Rattle.mls_rules.specs.Rules.{reply, after}
use Rattle.mls_lines.specs.Names.{Names}
use Rattle.mls_start_file.specs.Ties.{Loaded}
use Rattle.mls_differences.specs.Counterparts.{counterparts}
use Rattle.mls_differences.specs.Replying.{agree}
use Rattle.mls_differences.specs.Sides.{row_unless}
use Rattle.mls_compare.specs.Carrying.{carried_request}
use Rattle.mls_compare.specs.declared.entry_row.EntryRow.{EntryRow}

-- Where the second start has come to: its state, and the counterparts in it of the first start's objects, by number.
-- (own)
pub record Reached : Type 0 where
  pub state : State
  pub objects : List (Option ℕ)

-- A counterpart, unless it is this number. (own)
abbrev pub other_than : ℕ → Option ℕ → Option ℕ
other_than p None = None
other_than p (Some q) = if q == p then None else Some q

-- The counterparts without a number: what it was the counterpart of has none. (own)
abbrev pub without : ℕ → List (Option ℕ) → List (Option ℕ)
without p objects = map (other_than p) objects

-- The counterparts after the second start's reply, where the first start's made this object: it has as its counterpart
-- the object that was made there, or none. (own)
abbrev pub after_create : ℕ → Reply → List (Option ℕ) → List (Option ℕ)
after_create o Yes objects = set objects o None
after_create o (Created p) objects = set (without p objects) o (Some p)
after_create o (No reason) objects = set objects o None
after_create o Undefined objects = set objects o None

-- The counterparts after the second start's reply, where the first start's made nothing: an object that was made there
-- is none's counterpart. (own)
abbrev pub after_other : Reply → List (Option ℕ) → List (Option ℕ)
after_other Yes objects = objects
after_other (Created p) objects = without p objects
after_other (No reason) objects = objects
after_other Undefined objects = objects

-- The counterparts after the two replies to a request, the first start's first. (own)
abbrev pub objects_after : Reply → Reply → List (Option ℕ) → List (Option ℕ)
objects_after Yes there objects = after_other there objects
objects_after (Created o) there objects = after_create o there objects
objects_after (No reason) there objects = after_other there objects
objects_after Undefined there objects = after_other there objects

-- The reply to a request that may lack: undefined where it does. (own)
abbrev pub reply_where : State → Option Request → Reply
reply_where v None = Undefined
reply_where v (Some r) = reply v r

-- The state after a request that may lack: the same where it does. (own)
abbrev pub after_where : State → Option Request → State
after_where v None = v
after_where v (Some r) = after v r

-- The second start's reply to a request of the first. (own)
abbrev pub reply_there : Names → Names → Reached → Request → Reply
reply_there a b there r = reply_where there.state (carried_request a b there.objects r)

-- Where the second start comes to by an entry of the first's journal. (own)
abbrev pub follow : Names → Names → Reached → Entry → Reached
follow a b there e = record {
  state = after_where there.state (carried_request a b there.objects e.request);
  objects = objects_after e.reply (reply_there a b there e.request) there.objects;
}

-- The row of an entry with this reply of the second start, where the two replies don't agree. (own)
abbrev pub replied_rows : Entry → Reply → List EntryRow
replied_rows e there = row_unless (agree e.reply there) (record { entry = e; second = there })

-- The row of an entry that the second start answers otherwise; nothing where the replies agree. (own)
abbrev pub entry_rows : Names → Names → Reached → Entry → List EntryRow
entry_rows a b there e = replied_rows e (reply_there a b there e.request)

-- The rows of the entries that the second start answers otherwise, from where it has come to. (own)
unfoldable pub entries_rows : Names → Names → Reached → List Entry → List EntryRow
entries_rows a b there [] = []
entries_rows a b there (e ∷ entries) = entry_rows a b there e ++ entries_rows a b (follow a b there e) entries

-- Where the second start is before the first entry: in its opening, where the counterparts of objects are those of the
-- same names. (own)
abbrev pub begun : Names → Loaded → Reached
begun a b = record { state = b.start; objects = counterparts a.objects b.names.objects MAX_OBJECTS }

-- The rows of a journal of a start with these names and another start: the entries that the other answers otherwise.
-- (own)
abbrev pub followed_rows : Names → Loaded → List Entry → List EntryRow
followed_rows a b entries = entries_rows a b.names (begun a b) entries
