-- What the words of a question name.
use Rattle.std.specs.Prelude.{ℕ, Bool, false, List, [], ◌∷◌, ◌==◌, Option, Some, None, Result, Ok, Err, if◌then◌else◌}
use Rattle.mls_facts.specs.Decimals.{decimal_within}
use Rattle.mls_labels.specs.Reading.{place_of}
use Rattle.mls_lines.specs.Names.{Names}
use Rattle.mls_replay.specs.declared.naming.TheConstants.{MAX_NUMBER}
use Rattle.mls_replay.specs.declared.question_fault.QuestionFault.{QuestionFault}

-- A word begins with a `#`. (own)
abbrev pub begins_with_hash : List ℕ → Bool
begins_with_hash [] = false
begins_with_hash (b ∷ word) = b == 35

-- The number after the first byte of a word: decimal, without leading zeros, and at most 65,535. (own)
abbrev pub number_after : List ℕ → Option ℕ
number_after [] = None
number_after (b ∷ word) = decimal_within MAX_NUMBER word

-- The number of a word: that after a `#`, or else the place of a name among these. (own)
abbrev pub number_named : List (List ℕ) → List ℕ → Option ℕ
number_named names word = if begins_with_hash word then number_after word else place_of names word

-- The number of the subject that a word names. (own)
abbrev pub subject_word : Names → List ℕ → Option ℕ
subject_word names word = number_named names.subjects word

-- The number of the object that a word names. (own)
abbrev pub object_word : Names → List ℕ → Option ℕ
object_word names word = number_named names.objects word

-- A number, or a fault where there is none. (own)
abbrev pub or_fault : Option ℕ → QuestionFault → Result ℕ QuestionFault
or_fault (Some n) fault = Ok n
or_fault None fault = Err fault
