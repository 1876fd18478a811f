-- What is answered of the permissions that are asked for, and why it isn't.
use Rattle.std.specs.Prelude.{ℕ, Bool, List, Option}
use Rattle.mls_marks.specs.declared.row.Row.{Row}
use Rattle.mls_replay.specs.Replays.{Replayed}
use Rattle.mls_rows.specs.declared.form.Form.{Form}
use Rattle.mls_rows.specs.declared.listing.Listing.{Listing}
use Rattle.mls_spans.specs.Asked.{Words}
use Rattle.mls_spans.specs.UsageChosen.{ListsChosen}
use Rattle.mls_answers.specs.Histories.{states_from}

-- The permissions of these states of a replay that a filter asks for are listed, and how they were used. (own)
abbrev pub ListsUsageOf : Form → Replayed → Option (List Row) → Option ℕ → Option ℕ → Words → Bool → Listing → Type 0
ListsUsageOf form r rows at last words never listing =
    ListsChosen form r rows (states_from r at last) words never listing
