-- What is written of what could come about.
use Rattle.std.specs.Prelude.{ℕ, Bool, true, false, List, ◌++◌, codes}
use Rattle.json.specs.Token.{Token}
use Rattle.mls_requests.specs.ModeWords.{mode_word}
use Rattle.mls_lines.specs.Names.{Names}
use Rattle.mls_rows.specs.Members.{mode_member, subject_member, text_member}
use Rattle.mls_wording.specs.Wording.{subject_text}
use Rattle.mls_could.specs.declared.foreseen.Foreseen.{Foreseen}
use Rattle.mls_could.specs.declared.future.Future.{Future}
use Rattle.mls_could.specs.declared.future.Future.TheVariants.{Held, Could, Never}

-- The word of what becomes of an access. (own)
abbrev pub future_word : Future → List ℕ
future_word Held = codes "held"
future_word Could = codes "could"
future_word Never = codes "never"

-- Whether an access is held or could be. (own)
abbrev pub is_open : Future → Bool
is_open Held = true
is_open Could = true
is_open Never = false

-- The line of what becomes of a subject's access. (own)
abbrev pub foreseen_line : Names → Foreseen → List ℕ
foreseen_line names f =
    subject_text names f.subject ++ codes " " ++ mode_word f.mode ++ codes ": " ++ future_word f.future ++ codes "\n"

-- Its members. (own)
abbrev pub foreseen_members : Names → Foreseen → List Token
foreseen_members names f =
    subject_member (codes "subject") (codes "subject_name") names f.subject ++ mode_member (codes "mode") f.mode
    ++ text_member (codes "future") (future_word f.future)
