-- The lines of a script, and how they are cut out of bytes that come in pieces.
use Rattle.std.specs.Prelude.{◌≡◌, ℕ, ◌+◌, Bool, false, ◌||◌, List, [], ◌∷◌, ◌++◌, ◌==◌, take, if◌then◌else◌}
use Rattle.mls_lines.specs.declared.line.TheConstants.{MAX_LINE}

-- A byte stands before the first line. (own)
abbrev pub onto_first : ℕ → List (List ℕ) → List (List ℕ)
onto_first b [] = (b ∷ []) ∷ []
onto_first b (line ∷ lines) = (b ∷ line) ∷ lines

-- The lines of a script, without their newlines. A last one without a newline counts where it has a byte. (own)
abbrev pub lines_of : List ℕ → List (List ℕ)
lines_of [] = []
lines_of (b ∷ bytes) = if b == 10 then [] ∷ lines_of bytes else onto_first b (lines_of bytes)

-- Whether a newline stands among the bytes. (own)
abbrev pub has_newline : List ℕ → Bool
has_newline [] = false
has_newline (b ∷ bytes) = (b == 10) || has_newline bytes

-- The bytes up to and including the last newline. (own)
abbrev pub closed_part : List ℕ → List ℕ
closed_part [] = []
closed_part (b ∷ bytes) = if has_newline (b ∷ bytes) then b ∷ closed_part bytes else []

-- The bytes after the last newline: a line that isn't complete. (own)
abbrev pub open_part : List ℕ → List ℕ
open_part [] = []
open_part (b ∷ bytes) = if has_newline (b ∷ bytes) then open_part bytes else b ∷ bytes

-- The complete lines: those whose newline is there. (own)
abbrev pub closed_lines : List ℕ → List (List ℕ)
closed_lines bytes = lines_of (closed_part bytes)

-- What is kept of a line: a byte more than a line may have, since a longer one is a bad form whatever follows. (own)
abbrev pub kept_of : List ℕ → List ℕ
kept_of line = take (MAX_LINE + 1) line

-- Bytes begin with a line and its newline. (own)
pub record Cuts (bytes line rest : List ℕ) : Type 0 where
  pub line_open : has_newline line ≡ false
  pub whole : bytes ≡ line ++ 10 ∷ rest
