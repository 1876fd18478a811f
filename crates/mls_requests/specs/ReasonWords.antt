-- The words of reasons, and their places.
use Rattle.std.specs.Prelude.{ℕ, List, [], ◌∷◌, codes, Option}
use Rattle.mls_requests.specs.declared.reason.Reason.{Reason}
use Rattle.mls_requests.specs.declared.reason.Reason.TheVariants.{Discretionary, Simple, Star, Integrity, Authority}
use Rattle.mls_requests.specs.declared.reason.Reason.TheVariants.{Compatibility, Ceiling, Root, Full}
use Rattle.mls_requests.specs.Words.{with_word}

-- The word of a reason. (own)
abbrev pub reason_word : Reason → List ℕ
reason_word Discretionary = codes "discretionary"
reason_word Simple = codes "simple"
reason_word Star = codes "star"
reason_word Integrity = codes "integrity"
reason_word Authority = codes "authority"
reason_word Compatibility = codes "compatibility"
reason_word Ceiling = codes "ceiling"
reason_word Root = codes "root"
reason_word Full = codes "full"

-- The place of a reason in the order of reasons. (own)
abbrev pub reason_place : Reason → ℕ
reason_place Discretionary = 0
reason_place Simple = 1
reason_place Star = 2
reason_place Integrity = 3
reason_place Authority = 4
reason_place Compatibility = 5
reason_place Ceiling = 6
reason_place Root = 7
reason_place Full = 8

-- All reasons, in the order in which a word is looked for. (own)
abbrev pub all_reasons : List Reason
all_reasons =
    Discretionary ∷ Simple ∷ Star ∷ Integrity ∷ Authority ∷ Compatibility ∷ Ceiling ∷ Root ∷ Full ∷ []

-- The reason that has this word. (own)
abbrev pub read_reason : List ℕ → Option Reason
read_reason token = with_word reason_word all_reasons token
