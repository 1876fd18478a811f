-- Tests of each triple of a set, and of all triples of a list that has just them.
use Rattle.std.proofs.Common.{◌≡◌, ℕ, ◌<◌, Bool, true, ◌||◌, ◌⊎◌, inl, inr, List, [], ◌∷◌, length, refl, sym, ap, ◌∙◌, get_or}
use Rattle.std.specs.List.{list_any, list_all}
use Rattle.std.specs.FinSet as set
use Rattle.std.proofs.lemmas.List.Folds.{list_any_at}
use Rattle.mls_tables.specs.Triples.{Triple, TripleSet, triple_cmp, is_triple}
use Rattle.mls_tables.proofs.Laws.{is_triple-itself, is_triple-true, contains-from_list-triple}
use Rattle.mls_state.specs.Properties.{Each}
use Rattle.std.proofs.lemmas.Bool.{and_parts, or_cases, and_from, or_right}

-- what passes for each triple of a list passes for all
all_listed : (p : Triple → Bool) (ts : List Triple) → ((t : Triple) → list_any (λ u. is_triple u t) ts ≡ true → p t ≡ true) → list_all p ts ≡ true
all_listed p [] known = refl
all_listed p (t ∷ ts) known =
    and_from (p t) (list_all p ts) (known t (ap (λ b. b || list_any (λ u. is_triple u t) ts) (is_triple-itself t)))
    (all_listed p ts (λ u there. known u (or_right (is_triple t u) (list_any (λ w. is_triple w u) ts) there)))

-- and what passes for all passes for each
one_listed : (p : Triple → Bool) (ts : List Triple) (t : Triple) → list_all p ts ≡ true → list_any (λ u. is_triple u t) ts ≡ true → p t ≡ true
one_listed p [] t all there = cc
one_listed p (u ∷ ts) t all there =
    from (or_cases (is_triple u t) (list_any (λ w. is_triple w t) ts) there) (one_listed p ts t ((and_parts (p u) (list_all p ts) all).1)) where
      from : (is_triple u t ≡ true) ⊎ (list_any (λ w. is_triple w t) ts ≡ true) → (list_any (λ w. is_triple w t) ts ≡ true → p t ≡ true) → p t ≡ true
      from (inl same) later = ap p (sym (is_triple-true u t same)) ∙ (and_parts (p u) (list_all p ts) all).0
      from (inr there) later = later there

module _ (ts : List Triple) (b : TripleSet) (p : Triple → Bool) (listed : set.from_list {R = triple_cmp} ts ≡ b) where
  is_listed : (t : Triple) → set.contains b t ≡ list_any (λ u. is_triple u t) ts
  is_listed t = ap (λ c. set.contains c t) (sym listed) ∙ contains-from_list-triple ts t

  -- each triple of a set passes where all of a list that has just them do
  pub Each-from_all : list_all p ts ≡ true → Each b p
  Each-from_all all t there = one_listed p ts t all (sym (is_listed t) ∙ there)

  pub all-from_Each : Each b p → list_all p ts ≡ true
  all-from_Each each = all_listed p ts (λ t there. each t (is_listed t ∙ there))

  -- a triple at a place of the list passes what each of the set does
  pub at-from_Each : Each b p → (k : ℕ) (d : Triple) → k < length ts → p (get_or ts k d) ≡ true
  at-from_Each each k d within =
      each (get_or ts k d) (is_listed (get_or ts k d) ∙ list_any_at (λ u. is_triple u (get_or ts k d)) ts k d within (is_triple-itself (get_or ts k d)))
