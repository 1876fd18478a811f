-- What attending to a client leaves, by what its reader gave.
use Rattle.std.specs.Prelude.{◌≡◌, ◌<◌, ℕ, List, [], length, Option, Result, Ok, Err}
use Rattle.std.specs.Io.KnownBytes.{Consumes, IsAtEnd}
use Rattle.mls_requests.specs.declared.entry.Entry.{Entry}
use Rattle.mls_lines.specs.Names.{Names}
use Rattle.mls_scripts.specs.Lines.{closed_lines, open_part}
use Rattle.mls_scripts.specs.Script.{Standing}
use Rattle.mls_durable.specs.History.{Event}
use Rattle.mls_durable.specs.Sessions.{after_lines}
use Rattle.mls_durable.specs.Moments.{Serves}
use Rattle.mls_durable.specs.Batches.{Stops}
use Rattle.mls_durable.specs.declared.options.Protocol.{Protocol}
use Rattle.mls_durable.specs.declared.attend_fault.AttendFault.{AttendFault}
use Rattle.mls_durable.specs.declared.attend_fault.AttendFault.TheVariants.{Read, Unfinished, Write, File, Memory}
use Rattle.mls_durable.specs.declared.attend_fault.AttendFault.TheVariants.{TooLong}

-- What holds of the lines that are to be answered once some bytes were read: those that are complete in what the reader
-- gave, where that is known. (own)
abbrev pub OfInput : Option (List ℕ) → Option (List ℕ) → (List (List ℕ) → Type 0) → Type 0
OfInput given left P = (taken : List ℕ) × Consumes given left taken × P (closed_lines taken)

-- All lines that are complete in what was read are answered, and the monitor's journal has their entries and no other.
-- (own)
abbrev pub AnswersAll : Names → Protocol → Standing → List ℕ → List Entry → List Event → List Event → Type 0
AnswersAll names protocol first taken entries before after =
    Serves names protocol first before (closed_lines taken) after
    × (entries ≡ (after_lines names protocol first (closed_lines taken)).entries)

-- What attending to a client leaves, and which entries the monitor's journal has then: where the input ended, all lines
-- of it were answered, and behind the last newline stands nothing; or something does, which isn't asked; where the
-- reader failed, those lines that are complete in what was read; else the first of those. (own)
abbrev pub Attends : {X : Type 0} → Names → Protocol → Standing → Option (List ℕ) → Option (List ℕ) → List Entry
    → List Event → List Event → Result X AttendFault → Type 0
Attends names protocol first given left entries before after (Ok x) =
    (script : List ℕ) × Consumes given left script × IsAtEnd left × (open_part script ≡ [])
    × AnswersAll names protocol first script entries before after
Attends names protocol first given left entries before after (Err Read) =
    (taken : List ℕ) × Consumes given left taken × AnswersAll names protocol first taken entries before after
Attends names protocol first given left entries before after (Err Unfinished) =
    (script : List ℕ) × Consumes given left script × IsAtEnd left × (0 < length (open_part script))
    × AnswersAll names protocol first script entries before after
Attends names protocol first given left entries before after (Err Write) =
    OfInput given left (λ lines. Stops names protocol first before lines entries after Write)
Attends names protocol first given left entries before after (Err File) =
    OfInput given left (λ lines. Stops names protocol first before lines entries after File)
Attends names protocol first given left entries before after (Err Memory) =
    OfInput given left (λ lines. Stops names protocol first before lines entries after Memory)
Attends names protocol first given left entries before after (Err TooLong) =
    OfInput given left (λ lines. Stops names protocol first before lines entries after TooLong)
