-- What questions about all entries of a journal are answered.
use Rattle.std.specs.Prelude.{◌≡◌, ℕ, Bool, List, Option, Some}
use Rattle.mls_explain_text.specs.Under.{under_text}
use Rattle.mls_marks.specs.declared.row.Row.{Row}
use Rattle.mls_replay.specs.Replays.{Replayed}
use Rattle.mls_requests.specs.declared.entry.Entry.{Entry}
use Rattle.mls_rows.specs.declared.form.Form.{Form}
use Rattle.mls_rows.specs.declared.form.Form.TheVariants.{Text}
use Rattle.mls_rows.specs.declared.listing.Listing.{Listing}
use Rattle.mls_seen.specs.Files.{Files, SeesThat, place_of}
use Rattle.mls_spans.specs.EverListings.{ListsWord}
use Rattle.mls_spans.specs.UsageListings.{IsUsage, trust_seen, usages_seen}
use Rattle.mls_spans.specs.declared.states.States.{States}
use Rattle.mls_tables.specs.declared.mode.Mode.{Mode}
use Rattle.mls_answers.specs.Answers.{ExplainsNext}

-- The states of a replay from the one on that it looks at, up to another, where one is told. (own)
abbrev pub states_from : Replayed → Option ℕ → Option ℕ → States
states_from r at last = record { first = place_of at r.entries; last = last }

-- The permissions of these states of a replay are listed, and how they were used. (own)
abbrev pub ListsUsage : Form → Replayed → Option (List Row) → Option ℕ → Option ℕ → Listing → Type 0
ListsUsage form r rows at last listing =
    IsUsage form r.names rows (usages_seen r (states_from r at last)) (trust_seen r (states_from r at last)) listing

-- It is listed who could get the object that a word names in these states of a replay. (own)
abbrev pub ListsEver : Form → Replayed → Option (List Row) → Option ℕ → Option ℕ → Option Mode → List ℕ → Listing
    → Type 0
ListsEver form r rows at last mode word listing = ListsWord form r rows (states_from r at last) mode word listing

-- What stands under the line of an entry is what `mls explain --at` is answered of its number over these files, but for
-- the first line, each line behind two spaces. (own)
pub record ExplainsAlike (files : Files) (e : Entry) (under : List ℕ) : Type 0 where
  pub told : List ℕ
  pub positive : Bool
  pub explains : SeesThat files (Some e.number) (λ r. ExplainsNext Text r told positive)
  pub text : under ≡ under_text told
