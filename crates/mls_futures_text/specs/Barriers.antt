-- What is written of why an access never comes about.
use Rattle.std.specs.Prelude.{ℕ, List, ◌++◌, codes}
use Rattle.json.specs.Token.{Token}
use Rattle.mls_labels.specs.Label.{Label}
use Rattle.mls_tables.specs.declared.mode.Mode.{Mode}
use Rattle.mls_requests.specs.ModeWords.{mode_word}
use Rattle.mls_lines.specs.Names.{Names}
use Rattle.mls_rows.specs.Members.{text_member}
use Rattle.mls_wording.specs.Wording.{subject_text, object_text, security_text, integrity_text}
use Rattle.mls_futures_text.specs.declared.barrier.Why.{Why}
use Rattle.mls_futures_text.specs.declared.barrier.Why.TheVariants as why

-- The word of a reason. (own)
abbrev pub barrier_word : Why → List ℕ
barrier_word (why.Unknown s) = codes "subject"
barrier_word (why.Inactive o) = codes "object"
barrier_word (why.Actor s) = codes "actor"
barrier_word (why.Root s x o) = codes "permission"
barrier_word (why.Permission s x o p) = codes "permission"
barrier_word (why.Simple maximum s label o) = codes "simple"
barrier_word (why.Using upper o lower s) = codes "integrity"
barrier_word (why.Altering upper s lower o) = codes "integrity"

-- That a subject isn't permitted a mode of an object. (own)
abbrev pub unpermitted_text : Names → ℕ → Mode → ℕ → List ℕ
unpermitted_text names s x o =
    subject_text names s ++ codes " is not permitted " ++ mode_word x ++ codes " of " ++ object_text names o

-- A subject's maximum. (own)
unfoldable pub maximum_text : Names → Label → ℕ → List ℕ
maximum_text names maximum s = codes "maximum " ++ security_text names maximum ++ codes " of " ++ subject_text names s

-- An object's label. (own)
unfoldable pub label_text : Names → Label → ℕ → List ℕ
label_text names label o = security_text names label ++ codes " of " ++ object_text names o

-- That a subject's maximum doesn't dominate an object's label. (own)
abbrev pub uncleared_text : Names → Label → ℕ → Label → ℕ → List ℕ
uncleared_text names maximum s label o =
    maximum_text names maximum s ++ codes " does not dominate " ++ label_text names label o
    ++ codes ", and no trusted subject acts"

-- That an object's integrity doesn't dominate a subject's. (own)
abbrev pub using_text : Names → Label → ℕ → Label → ℕ → List ℕ
using_text names upper o lower s =
    integrity_text names upper ++ codes " of " ++ object_text names o ++ codes " does not dominate "
    ++ integrity_text names lower ++ codes " of " ++ subject_text names s

-- That a subject's integrity doesn't dominate an object's. (own)
abbrev pub altering_text : Names → Label → ℕ → Label → ℕ → List ℕ
altering_text names upper s lower o =
    integrity_text names upper ++ codes " of " ++ subject_text names s ++ codes " does not dominate "
    ++ integrity_text names lower ++ codes " of " ++ object_text names o

-- A reason with its values. (own)
abbrev pub basis_text : Names → Why → List ℕ
basis_text names (why.Unknown s) = subject_text names s ++ codes " is unknown"
basis_text names (why.Inactive o) = object_text names o ++ codes " is not active"
basis_text names (why.Actor s) = subject_text names s ++ codes " does not act"
basis_text names (why.Root s x o) = unpermitted_text names s x o ++ codes ", and no trusted subject acts"
basis_text names (why.Permission s x o p) =
    unpermitted_text names s x o ++ codes ", and nobody acts who could ever write " ++ object_text names p
basis_text names (why.Simple maximum s label o) = uncleared_text names maximum s label o
basis_text names (why.Using upper o lower s) = using_text names upper o lower s
basis_text names (why.Altering upper s lower o) = altering_text names upper s lower o

-- The line of a reason. (own)
abbrev pub barrier_text : Names → Why → List ℕ
barrier_text names w = barrier_word w ++ codes ": " ++ basis_text names w ++ codes "\n"

-- The members of a reason. (own)
abbrev pub barrier_members : Names → Why → List Token
barrier_members names w =
    text_member (codes "reason") (barrier_word w) ++ text_member (codes "basis") (basis_text names w)
