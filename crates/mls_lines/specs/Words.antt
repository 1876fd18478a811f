-- What the word after a subject asks for.
use Rattle.std.specs.Prelude.{ℕ, List, codes, if◌then◌else◌, Option, Some, option_map}
use Rattle.std.specs.Str.{bytes_eq}
use Rattle.mls_requests.specs.ActionWords.{read_action}
use Rattle.mls_lines.specs.declared.command.Word.{Word}
use Rattle.mls_lines.specs.declared.command.Word.TheVariants.{Check, Action}

-- The word that asks whether an access is held. (own)
abbrev pub check_word : List ℕ
check_word = codes "check"

-- What a word asks for: whether there is an access, or an action. (own)
abbrev pub word_of : List ℕ → Option Word
word_of token = if bytes_eq token check_word then Some Check else option_map Action (read_action token)
