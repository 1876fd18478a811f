-- What other crates may know of the text of a run.
use Rattle.std.specs.Prelude.{IfSome, option_map, is_some, if◌then◌else◌}
use Rattle.std.proofs.Common.{◌≡◌, ℕ, Bool, true, false, List, refl, ap, Option, Some, None}

-- a journal's text that is there just where it was asked for
pub journal_asked : {X : Type 0} (bytes : X → List ℕ) (journal : Option X) (asked : Bool) (text : List ℕ) → is_some journal ≡ asked
    → IfSome journal (λ t. bytes t ≡ text) → option_map bytes journal ≡ (if asked then Some text else None)
journal_asked bytes (Some t) true text there is = ap Some is
journal_asked bytes (Some t) false text there is = absurd (let no : true ≡ false = there in cc)
journal_asked bytes None true text there is = absurd (let no : false ≡ true = there in cc)
journal_asked bytes None false text there is = refl
