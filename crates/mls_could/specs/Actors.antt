-- Who acts, by the words of a question.
use Rattle.std.specs.Prelude.{◌≡◌, ℕ, ◌==◌, Bool, true, false, not, ◌&&◌, List, [], Option, Some, None}
use Rattle.std.specs.Borrow.{Bor}
use Rattle.std.specs.FinSet as set
use Rattle.std.specs.List.{list_any, list_all, slice_split}
use Rattle.mls_lines.specs.Names.{Names}
use Rattle.mls_state.specs.State.{State, is_subject}
use Rattle.mls_replay.specs.declared.command.CommandFault.TheVariants.{Memory}
use Rattle.mls_replay.specs.declared.question_fault.QuestionFault.{QuestionFault}
use Rattle.mls_replay.specs.declared.question_fault.QuestionFault.TheVariants.{Files, Subject}
use Rattle.mls_replay.specs.Naming.{subject_word}
use Rattle.mls_could.specs.declared.choice.Choice.{Choice}
use Rattle.mls_could.specs.declared.choice.Choice.TheVariants.{Untrusted, All, Named, Others}

-- The words of a list with commas between them. (own)
abbrev pub parts_of : List ℕ → List (List ℕ)
parts_of words = slice_split (λ b. b == 44) words

-- The words that are told, none where there is no list. (own)
abbrev pub words_told : Option (Bor (List ℕ)) → List (List ℕ)
words_told None = []
words_told (Some words) = parts_of words.now

-- Whether a number is this one. (own)
abbrev pub is_number : ℕ → Option ℕ → Bool
is_number s None = false
is_number s (Some n) = n == s

-- Whether a word names a subject. (own)
abbrev pub names_it : Names → ℕ → List ℕ → Bool
names_it names s word = is_number s (subject_word names word)

-- Whether there is a number, and it is that of a known subject. (own)
abbrev pub is_known : State → Option ℕ → Bool
is_known v None = false
is_known v (Some n) = is_subject v n

-- Whether a word names a known subject. (own)
abbrev pub names_known : Names → State → List ℕ → Bool
names_known names v word = is_known v (subject_word names word)

-- Whether each of some words names a known subject. (own)
abbrev pub are_known : Names → State → List (List ℕ) → Bool
are_known names v words = list_all (names_known names v) words

-- Whether a known subject acts: all that are not trusted do, or all, or those that words name, or all but those. (own)
abbrev pub is_one : Names → State → Choice → List (List ℕ) → ℕ → Bool
is_one names v Untrusted words s = not (set.contains v.trusted s)
is_one names v All words s = true
is_one names v Named words s = list_any (names_it names s) words
is_one names v Others words s = not (list_any (names_it names s) words)

-- Whether a subject acts: it is known, and one of those. (own)
abbrev pub is_actor : Names → State → Choice → List (List ℕ) → ℕ → Bool
is_actor names v choice words s = is_subject v s && is_one names v choice words s

-- Why it isn't told who acts: a word names no known subject, or memory ran out. (own)
abbrev pub RefusesActors : Names → State → List (List ℕ) → QuestionFault → Type 0
RefusesActors names v words Subject = are_known names v words ≡ false
RefusesActors names v words (Files Memory) = Unit {0}
RefusesActors names v words fault = ⊥
