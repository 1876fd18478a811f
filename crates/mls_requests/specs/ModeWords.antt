-- The words of modes.
use Rattle.std.specs.Prelude.{ℕ, List, [], ◌∷◌, codes, Option}
use Rattle.mls_tables.specs.declared.mode.Mode.{Mode}
use Rattle.mls_tables.specs.declared.mode.Mode.TheVariants.{Execute, Read, Append, Write}
use Rattle.mls_requests.specs.Words.{with_word}

-- The word of a mode. (own)
abbrev pub mode_word : Mode → List ℕ
mode_word Execute = codes "execute"
mode_word Read = codes "read"
mode_word Append = codes "append"
mode_word Write = codes "write"

-- All modes, in the order in which a word is looked for. (own)
abbrev pub all_modes : List Mode
all_modes = Execute ∷ Read ∷ Append ∷ Write ∷ []

-- The mode that has this word. (own)
abbrev pub read_mode : List ℕ → Option Mode
read_mode token = with_word mode_word all_modes token
