-- What files are replayed as, with all entries of a whole journal.
use Rattle.std.specs.Prelude.{◌≡◌, ℕ, List, Option, None, refl}
use Rattle.std.specs.Coded.{Coded, code_by, coded×, coded_ℕ, coded_option}
use Rattle.mls_journal.specs.EntryText.{journal_text}
use Rattle.mls_replay.specs.Replays.{Replayed, ReplaysAt, replayed_code}
use Rattle.mls_seen.specs.Files.{Files, files_code}

-- The bytes of files, the number of the entry before which the state is looked at, where that is asked for, and what
-- the files are replayed as. (own)
pub record History : Type 0 where
  pub files : Files
  pub at : Option ℕ
  pub replayed : Replayed

-- A history as the tuple of its parts. (own)
abbrev pub history_code : Coded History
history_code =
    code_by (Files × (Option ℕ × Replayed)) (coded× files_code (coded× (coded_option coded_ℕ) replayed_code))
    (λ h. (h.files, (h.at, h.replayed))) (λ p. record { files = p.0; at = p.1.0; replayed = p.1.1 }) (λ _. refl)

-- The history of a start file's bytes and a replay: the journal's bytes are the text of its entries. (own)
abbrev pub history_of : List ℕ → Option ℕ → Replayed → History
history_of file at replay = record {
  files = record { start = file; cut = None; journal = journal_text replay.entries };
  at = at;
  replayed = replay;
}

-- A history is that of its files: the journal is whole, and the files are replayed as it says. (own)
pub record IsOfFiles (h : History) : Type 0 where
  pub whole : h.files.cut ≡ None
  pub replays : ReplaysAt h.files.start h.files.journal h.at h.replayed

-- Files with a whole journal are replayed as something of which this is so. (own)
pub record ReplaysThat (files : Files) (at : Option ℕ) (P : Replayed → Type 0) : Type 0 where
  pub replayed : Replayed
  pub whole : files.cut ≡ None
  pub replays : ReplaysAt files.start files.journal at replayed
  pub so : P replayed
