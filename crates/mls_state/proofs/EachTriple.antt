-- Tests that each triple of a set passes, as the set changes.
use Rattle.std.proofs.Common.{◌≡◌, Bool, true, false, not, ◌&&◌, sym, ap, ◌∙◌, ◌⊎◌, inl, inr}
use Rattle.std.proofs.Math.Bool.{and_assoc}
use Rattle.std.proofs.lemmas.Bool.{and_from, and_parts, or_cases, or_right}
use Rattle.std.specs.FinSet as set
use Rattle.mls_tables.specs.Triples.{Triple, TripleSet, triple_cmp, is_triple}
use Rattle.mls_tables.proofs.Laws.{is_triple-true, same_triple, same_triples, contains-insert-triple, contains-remove-triple}
use Rattle.mls_state.specs.Properties.{Each}

-- no triple is in the empty set
pub Each-empty : (p : Triple → Bool) → Each set.empty p
Each-empty p t there = let none : set.contains {R = triple_cmp} set.empty t ≡ false = set.contains-empty triple_cmp t in cc

-- one triple more
pub Each-insert : (b : TripleSet) (t : Triple) (p : Triple → Bool) → Each b p → p t ≡ true → Each (set.insert b t) p
Each-insert b t p all one u there = from (or_cases (is_triple u t) (set.contains b u) (sym (contains-insert-triple b t u) ∙ there)) where
  from : (is_triple u t ≡ true) ⊎ (set.contains b u ≡ true) → p u ≡ true
  from (inl same) = ap p (is_triple-true u t same) ∙ one
  from (inr known) = all u known

-- one triple less
pub Each-remove : (b : TripleSet) (t : Triple) (p : Triple → Bool) → Each b p → Each (set.remove b t) p
Each-remove b t p all u there = all u ((and_parts (not (is_triple u t)) (set.contains b u) (sym (contains-remove-triple b t u) ∙ there)).1)

-- within a set, and so within it with one triple more
pub within-insert : (b m : TripleSet) (t : Triple) → Each b (set.contains m) → Each b (set.contains (set.insert m t))
within-insert b m t within u there = contains-insert-triple m t u ∙ or_right (is_triple u t) (set.contains m u) (within u there)

-- within a set, both without one triple
pub within-remove : (b m : TripleSet) (t : Triple) → Each b (set.contains m) → Each (set.remove b t) (set.contains (set.remove m t))
within-remove b m t within u there =
    let both : (not (is_triple u t) && set.contains b u) ≡ true = sym (contains-remove-triple b t u) ∙ there in
    let other : not (is_triple u t) ≡ true = (and_parts (not (is_triple u t)) (set.contains b u) both).0 in
    let there_still : set.contains m u ≡ true = within u ((and_parts (not (is_triple u t)) (set.contains b u) both).1) in
    contains-remove-triple m t u ∙ and_from (not (is_triple u t)) (set.contains m u) other there_still

-- the triples that pass a test
pub contains-retain-triple : (b : TripleSet) (p : Triple → Bool) (t : Triple) → set.contains (set.retain b p) t ≡ (set.contains b t && p t)
contains-retain-triple b p t = set.contains-retain b p t (λ u tie. ap p (sym (same_triple t u tie)))

-- a triple that is kept was there, and passes the test
pub kept_there : (b : TripleSet) (p : Triple → Bool) (t : Triple) → set.contains (set.retain b p) t ≡ true → set.contains b t ≡ true
kept_there b p t there = (and_parts (set.contains b t) (p t) (sym (contains-retain-triple b p t) ∙ there)).0

pub kept_passes : (b : TripleSet) (p : Triple → Bool) (t : Triple) → set.contains (set.retain b p) t ≡ true → p t ≡ true
kept_passes b p t there = (and_parts (set.contains b t) (p t) (sym (contains-retain-triple b p t) ∙ there)).1

-- within a set, and so within it where both keep the triples that pass a test
pub within-retain : (b m : TripleSet) (p : Triple → Bool) → Each b (set.contains m) → Each (set.retain b p) (set.contains (set.retain m p))
within-retain b m p within t there =
    let in_m : set.contains m t ≡ true = within t (kept_there b p t there) in
    contains-retain-triple m p t ∙ and_from (set.contains m t) (p t) in_m (kept_passes b p t there)

-- to keep those that pass a test, and of these those that pass another, is to keep those that pass both
pub retain-twice-triple : (b : TripleSet) (p q : Triple → Bool) → set.retain (set.retain b p) q ≡ set.retain b (λ t. p t && q t)
retain-twice-triple b p q = same_triples _ _ (λ t.
    contains-retain-triple (set.retain b p) q t
    ∙ ap (λ c. c && q t) (contains-retain-triple b p t)
    ∙ and_assoc (set.contains b t) (p t) (q t)
    ∙ sym (contains-retain-triple b (λ t. p t && q t) t))
