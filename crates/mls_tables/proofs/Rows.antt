-- What a change of one list makes of the relation that lists tell.
use Rattle.std.specs.Prelude.{◌≡◌, ℕ, ◌<◌, ◌≤◌, Bool, not, ◌&&◌, ◌||◌, List, [], length, filter, Result, refl}
use Rattle.std.specs.List.{range_with_len}
use Rattle.std.specs.List.Sorted.{IsStrictlyIncreasing}
use Rattle.std.proofs.Common.{◌⊎◌, inl, inr, arith, sym, ap, subst, ◌∙◌, eqb, get_or, set, get_or-set_same, get_or-set_other}
use Rattle.std.proofs.lemmas.Bool.{cases_eq, eq-eqb, ne_eqb}
use Rattle.std.proofs.Math.Bool.{and-true}
use Rattle.std.proofs.lemmas.List.FromFn.{length-range_with_len}
use Rattle.mls_facts.proofs.Increasing.{IsStrictlyIncreasing-filter_range}
use Rattle.mls_facts.proofs.Lists.{length-filter-le}
use Rattle.mls_tables.specs.Rows.{FoundAt, entered, listed, IsRows}
use Rattle.mls_tables.proofs.Ordered.{listed-entered, listed-filter}

pub IsStrictlyIncreasing-listed : (p : ℕ → Bool) (n : ℕ) → IsStrictlyIncreasing (listed p n)
unfolding listed
IsStrictlyIncreasing-listed p n = IsStrictlyIncreasing-filter_range p 0 n

pub length-listed : (p : ℕ → Bool) (n : ℕ) → length (listed p n) ≤ n
unfolding listed
length-listed p n = let few : length (listed p n) ≤ length (range_with_len 0 n) = length-filter-le p (range_with_len 0 n) in let long : length (range_with_len 0 n) ≡ n = length-range_with_len 0 n in omega arith

module _ (p : ℕ → ℕ → Bool) (n : ℕ) (lists : List (List ℕ)) (rows : IsRows p n lists) (a : ℕ) where
  pub row-rises : IsStrictlyIncreasing (get_or lists a [])
  row-rises = subst IsStrictlyIncreasing (sym (rows a)) (IsStrictlyIncreasing-listed (p a) n)

  pub row-few : length (get_or lists a []) ≤ n
  row-few = let is : length (get_or lists a []) ≡ length (listed (p a) n) = ap length (rows a) in omega (arith, length-listed (p a) n)

  module _ (x : ℕ) (r : Result ℕ ℕ) (place : IsStrictlyIncreasing (get_or lists a []) → FoundAt (get_or lists a []) x r) (here : a < length lists) where
    found_in_row : FoundAt (listed (p a) n) x r
    found_in_row = subst (λ l. FoundAt l x r) (rows a) (place row-rises)

    -- a number more in one list
    pub IsRows-entered : x < n → (after : List (List ℕ)) → after ≡ set lists a (entered (get_or lists a []) r x) → IsRows (λ b y. (eqb b a && eqb y x) || p b y) n after
    IsRows-entered below after is b = ap (λ l. get_or l b []) is ∙ from (cases_eq b a) where
      from : (b ≡ a) ⊎ (b ≡ a → ⊥) → get_or (set lists a (entered (get_or lists a []) r x)) b [] ≡ listed (λ y. (eqb b a && eqb y x) || p b y) n
      from (inl same) =
          rw (same, eq-eqb a a refl) (get_or-set_same lists a _ [] here ∙ ap (λ l. entered l r x) (rows a) ∙ listed-entered (p a) n x r below found_in_row)
      from (inr other) = rw (ne_eqb b a other) (get_or-set_other lists a b _ [] other ∙ rows b)

  -- what a test refuses less in one list
  pub IsRows-kept : (r : ℕ → Bool) → a < length lists → (after : List (List ℕ)) → after ≡ set lists a (filter (λ y. not (r y)) (get_or lists a [])) → IsRows (λ b y. p b y && not (eqb b a && r y)) n after
  IsRows-kept r here after is b = ap (λ l. get_or l b []) is ∙ from (cases_eq b a) where
    from : (b ≡ a) ⊎ (b ≡ a → ⊥) → get_or (set lists a (filter (λ y. not (r y)) (get_or lists a []))) b [] ≡ listed (λ y. p b y && not (eqb b a && r y)) n
    from (inl same) = rw (same, eq-eqb a a refl) (get_or-set_same lists a _ [] here ∙ ap (filter (λ y. not (r y))) (rows a) ∙ listed-filter (p a) n r)
    from (inr other) = rw (ne_eqb b a other) (get_or-set_other lists a b _ [] other ∙ rows b ∙ ap (λ q. listed q n) (λ i y. sym (and-true (p b y)) i))

  -- a number less in one list
  pub IsRows-discarded : (x : ℕ) → a < length lists → (after : List (List ℕ)) → after ≡ set lists a (filter (λ y. not (eqb y x)) (get_or lists a [])) → IsRows (λ b y. p b y && not (eqb b a && eqb y x)) n after
  IsRows-discarded x = IsRows-kept (λ y. eqb y x)
