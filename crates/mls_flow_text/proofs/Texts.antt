-- Texts, one after the other.
use Rattle.std.proofs.Common.{◌≡◌, ℕ, List, ◌++◌, Result, Ok, Err, ap, ◌∙◌}
use Rattle.std.specs.Prelude.{OnOk, if◌then◌else◌}
use Rattle.std.specs.Result.{is_ok}
use Rattle.std.proofs.lemmas.List.{append_assoc}

-- three texts, one after the other
pub pushed_three : {T E : Type 0} (result : Result T E) (old one two new a b c : List ℕ) → new ≡ (if is_ok result then two ++ c else two) → two ≡ one ++ b → one ≡ old ++ a
    → OnOk result (new ≡ old ++ ((a ++ b) ++ c))
pushed_three (Ok x) old one two new a b c last second first =
    last ∙ ap (λ t. t ++ c) (second ∙ ap (λ t. t ++ b) first ∙ append_assoc old a b) ∙ append_assoc old (a ++ b) c
pushed_three (Err f) old one two new a b c last second first = tt
