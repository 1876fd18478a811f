-- What serving a script leaves: the bytes written and the monitor, by the result.
use Rattle.std.specs.Prelude.{◌≡◌, ℕ, ◌+◌, ◌<◌, ◌≤◌, ◌⊎◌, false, List, [], ◌∷◌, ◌++◌, length, take, Option, IfSome}
use Rattle.std.specs.Prelude.{Result, Ok, Err, MatchResult}
use Rattle.std.specs.Io.KnownBytes.{Appends, Consumes, IsAtEnd}
use Rattle.mls_monitor.specs.Journal.{Monitor}
use Rattle.mls_scripts.specs.Lines.{lines_of, closed_lines, open_part, has_newline, kept_of}
use Rattle.mls_lines.specs.Names.{Names}
use Rattle.mls_scripts.specs.Script.{Standing, standing_of, answers, after_lines}
use Rattle.mls_scripts.specs.declared.serving.TheConstants.{SCRIPT_LIMIT}
use Rattle.mls_scripts.specs.declared.serving.ServeFault.{ServeFault}
use Rattle.mls_scripts.specs.declared.serving.ServeFault.TheVariants.{Read, Write, Memory, TooLong}

-- Bytes were handed to a writer: all were taken, or it failed and took a front of them, but not all. (own)
abbrev pub Writes : {X : Type 0} → Option (List ℕ) → Option (List ℕ) → List ℕ → Result X ServeFault → Type 0
Writes held holds text (Ok _) = Appends held holds text
Writes held holds text (Err Read) = ⊥
Writes held holds text (Err Write) = (taken lost : List ℕ) × (text ≡ taken ++ lost) × (0 < length lost)
    × Appends held holds taken
Writes held holds text (Err Memory) = ⊥
Writes held holds text (Err TooLong) = ⊥

-- Lines were answered: what a writer held and holds, and where the script stood and stands. (own)
pub record Answers (names : Names) (session : ℕ) (held holds : Option (List ℕ)) (before after : Standing)
    (lines : List (List ℕ)) : Type 0 where
  pub written : Appends held holds (answers names session before lines)
  pub stands : after ≡ after_lines names session before lines

-- The lines before one of these were answered, and no other was asked. (own)
pub record AnswersBefore (names : Names) (session : ℕ) (held holds : Option (List ℕ)) (before after : Standing)
    (lines : List (List ℕ)) : Type 0 where
  pub front : List (List ℕ)
  pub line : List ℕ
  pub rest : List (List ℕ)
  pub whole : lines ≡ front ++ line ∷ rest
  pub answered : Answers names session held holds before after front

-- An answer broke off: the first of the lines were answered, one more was asked, and a front of its answer was written,
-- but not all of it. No other line was asked. (own)
pub record BreaksOff (names : Names) (session : ℕ) (held holds : Option (List ℕ)) (before after : Standing)
    (lines : List (List ℕ)) : Type 0 where
  pub front : List (List ℕ)
  pub line : List ℕ
  pub rest : List (List ℕ)
  pub text : List ℕ
  pub lost : List ℕ
  pub whole : lines ≡ front ++ line ∷ rest
  pub asked : after ≡ after_lines names session before (front ++ line ∷ [])
  pub part : answers names session before (front ++ line ∷ []) ≡ answers names session before front ++ text ++ lost
  pub short : 0 < length lost
  pub written : Appends held holds (answers names session before front ++ text)

-- All of the lines were answered, or those before the one for which an allocation failed. (own)
abbrev pub AnswersUnlessRefused : Names → ℕ → Option (List ℕ) → Option (List ℕ) → Standing → Standing → List (List ℕ)
    → Type 0
AnswersUnlessRefused names session held holds before after lines =
    Answers names session held holds before after lines ⊎ AnswersBefore names session held holds before after lines

-- What stands where answering lines stopped by a fault, before the writer is flushed: it fails within an answer alone.
-- An allocation fails for one of the lines, or, once all are answered, for what is kept of a line that isn't complete.
-- (own)
abbrev pub Stops : Names → ℕ → Option (List ℕ) → Option (List ℕ) → Standing → Standing → List (List ℕ) → ServeFault
    → Type 0
Stops names session held holds before after lines Read = ⊥
Stops names session held holds before after lines Write = BreaksOff names session held holds before after lines
Stops names session held holds before after lines Memory =
    AnswersUnlessRefused names session held holds before after lines
Stops names session held holds before after lines TooLong = ⊥

-- What stands where answering lines stopped by a fault, once the writer was to be flushed. For `Write`, an answer broke
-- off, or the flush failed and all of the lines were answered. (own)
abbrev pub Fails : Names → ℕ → Option (List ℕ) → Option (List ℕ) → Standing → Standing → List (List ℕ) → ServeFault
    → Type 0
Fails names session held holds before after lines Read = ⊥
Fails names session held holds before after lines Write =
    BreaksOff names session held holds before after lines ⊎ Answers names session held holds before after lines
Fails names session held holds before after lines Memory =
    AnswersUnlessRefused names session held holds before after lines
Fails names session held holds before after lines TooLong = ⊥

-- What answering lines leaves, by the result, before the writer is flushed. (own)
abbrev pub AnswersOrStops : {X : Type 0} → Names → ℕ → Option (List ℕ) → Option (List ℕ) → Standing → Standing
    → List (List ℕ) → Result X ServeFault → Type 0
AnswersOrStops names session held holds before after lines result =
    MatchResult result (λ _. Answers names session held holds before after lines)
    (Stops names session held holds before after lines)

-- What answering lines leaves, by the result, once the writer was to be flushed. (own)
abbrev pub AnswersOrFails : {X : Type 0} → Names → ℕ → Option (List ℕ) → Option (List ℕ) → Standing → Standing
    → List (List ℕ) → Result X ServeFault → Type 0
AnswersOrFails names session held holds before after lines result =
    MatchResult result (λ _. Answers names session held holds before after lines)
    (Fails names session held holds before after lines)

-- What answering one line leaves, by the bytes of its answer, by where the script then stands, and by the result. (own)
abbrev pub Replies : {X : Type 0} → Option (List ℕ) → Option (List ℕ) → Standing → Standing → List ℕ → Standing
    → Result X ServeFault → Type 0
Replies held holds before after text next (Ok _) = Appends held holds text × (after ≡ next)
Replies held holds before after text next (Err Read) = ⊥
Replies held holds before after text next (Err Write) = (taken lost : List ℕ) × (text ≡ taken ++ lost)
    × (0 < length lost) × Appends held holds taken × (after ≡ next)
Replies held holds before after text next (Err Memory) = (holds ≡ held) × (after ≡ before)
Replies held holds before after text next (Err TooLong) = ⊥

-- What one more piece of a script leaves, before the writer is flushed, whatever stands before it of a line that isn't
-- complete, of which `kept` was kept. (own)
abbrev pub Feeds : {X : Type 0} → Names → ℕ → Option (List ℕ) → Option (List ℕ) → Standing → Standing → List ℕ → List ℕ
    → List ℕ → Result X ServeFault → Type 0
Feeds names session held holds before after kept keeps piece result =
    (line : List ℕ) → has_newline line ≡ false → kept ≡ kept_of line →
    MatchResult result
    (λ _. Answers names session held holds before after (closed_lines (line ++ piece))
    × (keeps ≡ kept_of (open_part (line ++ piece))))
    (Stops names session held holds before after (closed_lines (line ++ piece)))

-- What one more piece of a script leaves, once the writer was to be flushed. (own)
abbrev pub TakesPiece : {X : Type 0} → Names → ℕ → Option (List ℕ) → Option (List ℕ) → Standing → Standing → List ℕ
    → List ℕ → List ℕ → Result X ServeFault → Type 0
TakesPiece names session held holds before after kept keeps piece result =
    (line : List ℕ) → has_newline line ≡ false → kept ≡ kept_of line →
    MatchResult result
    (λ _. Answers names session held holds before after (closed_lines (line ++ piece))
    × (keeps ≡ kept_of (open_part (line ++ piece))))
    (Fails names session held holds before after (closed_lines (line ++ piece)))

-- What holds of the script: of all that the reader has to give where that is known, and of some bytes anyhow. (own)
abbrev pub OfScript : Option (List ℕ) → (List ℕ → Type 0) → Type 0
OfScript given P = (script : List ℕ) × IfSome given (λ known. script ≡ known) × P script

-- The lines that are to be answered once these bytes of a script were read: those that are complete within the limit,
-- and, where the script has ended, all. (own)
abbrev pub Due : Option (List ℕ) → List ℕ → List (List ℕ) → Type 0
Due left taken lines =
    (lines ≡ closed_lines (take SCRIPT_LIMIT taken))
    ⊎ (IsAtEnd left × (length taken ≤ SCRIPT_LIMIT) × (lines ≡ lines_of taken))

-- What holds of the lines that are to be answered once some bytes were read: those that the reader gave, where that is
-- known. (own)
pub record OfRead (given left : Option (List ℕ)) (P : List (List ℕ) → Type 0) : Type 0 where
  pub taken : List ℕ
  pub lines : List (List ℕ)
  pub consumed : Consumes given left taken
  pub due : Due left taken lines
  pub holds : P lines

-- What a script leaves whose reader failed: at most SCRIPT_LIMIT bytes were taken from it, and just the lines that are
-- complete in these are answered. (own)
pub record FailsToRead (names : Names) (session : ℕ) (given left held holds : Option (List ℕ))
    (before after : Standing) : Type 0 where
  pub taken : List ℕ
  pub consumed : Consumes given left taken
  pub few : length taken ≤ SCRIPT_LIMIT
  pub answered : Answers names session held holds before after (closed_lines taken)

-- What a script leaves: what the reader had to give, and has left, what the writer held, and holds, and where the
-- script stood before and stands after, by the result. (own)
abbrev pub ScriptEnds : Names → ℕ → Option (List ℕ) → Option (List ℕ) → Option (List ℕ) → Option (List ℕ) → Standing
    → Standing → Result ℕ ServeFault → Type 0
ScriptEnds names session given left held holds before after (Ok n) = OfScript given (λ script.
    (length script ≤ SCRIPT_LIMIT) × Answers names session held holds before after (lines_of script)
    × (length after.entries ≡ length before.entries + n))
ScriptEnds names session given left held holds before after (Err Read) =
    FailsToRead names session given left held holds before after
ScriptEnds names session given left held holds before after (Err Write) =
    OfRead given left (λ lines. Fails names session held holds before after lines Write)
ScriptEnds names session given left held holds before after (Err Memory) =
    OfRead given left (λ lines. Fails names session held holds before after lines Memory)
ScriptEnds names session given left held holds before after (Err TooLong) = OfScript given (λ script.
    (SCRIPT_LIMIT < length script)
    × Answers names session held holds before after (closed_lines (take SCRIPT_LIMIT script)))

-- What serving a script over a monitor leaves. It begins with no variable bound, and those that it bound are gone with
-- it. (own)
abbrev pub Serves : Names → ℕ → Option (List ℕ) → Option (List ℕ) → Option (List ℕ) → Option (List ℕ) → Monitor
    → Monitor → Result ℕ ServeFault → Type 0
Serves names session given left held holds old new result =
    (vars : List (List ℕ × ℕ))
    × ScriptEnds names session given left held holds (standing_of [] old) (standing_of vars new) result
