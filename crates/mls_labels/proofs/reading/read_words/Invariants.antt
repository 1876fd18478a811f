use Rattle.std.specs.Prelude.{◌≡◌, length, Ok}
use denote.Text.{Utf8}
use denote.Shadow.{shadow}
use Rattle.std.specs.FinSet as set
use Rattle.mls_labels.specs.Reading.{words_of, with_words}
use Rattle.mls_labels.proofs.reading.read_words.Given as goal

-- what has been read, with what is left, is all
abbrev pub invariant-loop-name : goal.invariant-loop-name
invariant-loop-name g l = shadow (Utf8 l.rest) × (with_words l.names l.found (words_of l.rest) ≡ with_words l.names (Ok set.empty) (words_of l.text))

abbrev pub decreases-loop-name : goal.decreases-loop-name
decreases-loop-name g l = length l.rest
