-- The numbers of categories with commas between them.
use Rattle.std.specs.Prelude.{◌≡◌, ℕ, zero, suc, Bool, false, List, [], ◌∷◌, ◌++◌, map}
use Rattle.std.specs.Ordering.{nat_cmp}
use Rattle.std.specs.FinSet.{empty, contains, contains-empty}
use Rattle.std.proofs.Common.{refl}
use Rattle.std.proofs.lemmas.List.{append_assoc}
use Rattle.mls_labels.specs.Ascending.{numbers, ascending}
use Rattle.mls_labels.specs.LabelText.{words_after}
use Rattle.mls_wording.specs.Wording.{numbered}

-- a number and those after it
pub words_more : (old : List ℕ) (separator n : ℕ) (ns ms : List ℕ) → ms ≡ n ∷ ns
    → (old ++ separator ∷ numbered n) ++ words_after 44 (map numbered ns) ≡ old ++ words_after separator (map numbered ms)
words_more old separator n ns ms e = rw (e, append_assoc) refl

none_pass : (p : ℕ → Bool) (count from : ℕ) → ((i : ℕ) → p i ≡ false) → numbers p count from ≡ []
unfolding numbers
none_pass p zero from none = refl
none_pass p (suc count) from none = rw (none from) (none_pass p count (suc from) none)

-- the empty set has no number
pub none_ascend : ascending empty ≡ []
none_ascend = none_pass (contains empty) 256 0 (contains-empty nat_cmp)
