-- What a handle holds while it is open.
use Rattle.std.specs.Prelude.{ℕ, nat_lt, if◌then◌else◌, Option, None, List, [], ◌∷◌, ◌++◌, length, slice_get, refl}
use Rattle.std.specs.Coded.{Coded, code_by, coded×, coded_ℕ, coded_list}
use Rattle.mls_lines.specs.Names.{Names, names_code}
use Rattle.mls_state.specs.State.{State, state_code}
use Rattle.mls_requests.specs.declared.entry.Entry.{Entry}
use Rattle.mls_requests.specs.declared.request.Request.{Request}
use Rattle.mls_requests.specs.contracts.entry.Entry as entry
use Rattle.mls_rules.specs.Rules.{reply}
use Rattle.mls_monitor.specs.Journal.{fold}
use Rattle.mls_monitor.specs.Tails.{forgotten_of}
use Rattle.mls_start_file.specs.Ties.{Loaded}
use Rattle.mls_turns.specs.Journals.{Journal}

-- An open monitor: the names of its start, the state that it started with, its journal, and how many of the first of
-- its entries it has forgotten. (own)
pub record Opened : Type 0 where
  pub names : Names
  pub start : State
  pub entries : List Entry
  pub forgotten : ℕ

-- The state of an open monitor: the fold of its journal from its start. (own)
abbrev pub state_of : Opened → State
state_of o = fold o.start o.entries

-- An open monitor of these names, with the start and the journal of this one. (own)
abbrev pub with_journal : Names → Journal → Opened
with_journal names j = record { names = names; start = j.start; entries = j.entries; forgotten = j.forgotten }

-- The monitor that a start file opens with this journal, of which it has forgotten nothing. (own)
abbrev pub opened_with : Loaded → List Entry → Opened
opened_with loaded journal = record { names = loaded.names; start = loaded.start; entries = journal; forgotten = 0 }

-- The entry of this number, where it is there and isn't forgotten. (own)
abbrev pub kept_entry : Opened → ℕ → Option Entry
kept_entry o n = if nat_lt n o.forgotten then None else slice_get o.entries n

-- An open monitor that has forgotten the entries below a number, too, as far as they are there. (own)
abbrev pub without_entries : ℕ → Opened → Opened
without_entries n o = record {
  names = o.names;
  start = o.start;
  entries = o.entries;
  forgotten = forgotten_of o.forgotten (length o.entries) n;
}

-- The entry that the next request gets: its number is how many entries there are, and its reply is that of the rules.
-- (own)
abbrev pub next_entry : Opened → ℕ → Request → Entry
next_entry o session r =
    record { number = length o.entries; session = session; reply = reply (state_of o) r; request = r }

-- An open monitor with one entry more. (own)
abbrev pub with_entry : Opened → Entry → Opened
with_entry o e =
    record { names = o.names; start = o.start; entries = o.entries ++ e ∷ []; forgotten = o.forgotten }

-- How an open monitor is stored: as the tuple of its parts. (own)
abbrev pub opened_code : Coded Opened
opened_code =
    code_by (Names × (State × (List Entry × ℕ)))
    (coded× names_code (coded× state_code (coded× (coded_list entry.the_row.coded) coded_ℕ)))
    (λ o. (o.names, (o.start, (o.entries, o.forgotten))))
    (λ p. record { names = p.0; start = p.1.0; entries = p.1.1.0; forgotten = p.1.1.1 }) (λ _. refl)
