-- What `#` leaves of a word, and what its digits are.
use Rattle.std.proofs.Common.{◌≡◌, ◌≢◌, ℕ, lit<, true, false, List, [], ◌∷◌, drop, refl, sym, ap, ◌∙◌, Option, Some, None, is_some, cond, Bor}
use Rattle.std.proofs.lemmas.Bool.{eqb-true, false_from_ne_true}
use Rattle.std.specs.Fmt.{decimal}
use Rattle.std.specs.Prelude.{MatchOption}
use Rattle.json.specs.Token.{number, null}
use Rattle.mls_facts.proofs.Decimals.{decimal-text}
use Rattle.mls_facts.specs.Decimals.{decimal_within}
use Rattle.mls_rows.specs.Members.{is_numbered, number_token}

pub digits_read : (word : List ℕ) (n : ℕ) → Some n ≡ decimal_within 18446744073709551615 word → number (decimal n) ≡ number_token word
digits_read word n e =
    ap number (sym (decimal-text 18446744073709551615 (lit< tt) word n (sym e)))
    ∙ ap (λ r. cond (is_some r) (number word) null) e

pub digits_missing : (word : List ℕ) → None ≡ decimal_within 18446744073709551615 word → null ≡ number_token word
digits_missing word e = ap (λ (r : Option ℕ). cond (is_some r) (number word) null) e

missing : (bs : List ℕ) → ((rest : List ℕ) → bs ≢ 35 ∷ rest) → is_numbered bs ≡ false
missing [] lacks = refl
missing (b ∷ bs) lacks = false_from_ne_true _ (λ t. lacks bs (ap (λ x. x ∷ bs) (eqb-true b 35 t)))

pub behind_is : (bs : List ℕ) (r : Option (Bor (List ℕ)))
    → MatchOption r ((rest : List ℕ) → bs ≢ 35 ∷ rest) (λ x. bs ≡ 35 ∷ x.now)
    → MatchOption r (is_numbered bs ≡ false) (λ x. (is_numbered bs ≡ true) × (x.now ≡ drop 1 bs))
behind_is bs None lacks = missing bs lacks
behind_is bs (Some x) e = (ap is_numbered e, sym (ap (drop 1) e))
