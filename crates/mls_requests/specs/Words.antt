-- Things that have words, and what a word stands for among them.
use Rattle.std.specs.Prelude.{ℕ, List, Option}
use Rattle.std.specs.List.{find}
use Rattle.std.specs.Str.{bytes_eq}

-- The first of these things that has this word, where one has it. (own)
abbrev pub with_word : {X : Type 0} → (X → List ℕ) → List X → List ℕ → Option X
with_word word_of things token = find (λ x. bytes_eq token (word_of x)) things
