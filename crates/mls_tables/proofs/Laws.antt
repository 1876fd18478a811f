-- What other crates may know of modes, of triples and of sets of them.
use Rattle.std.specs.Prelude.{◌≡◌, ℕ, ◌<◌, ◌≤◌, Bool, true, false, not, ◌&&◌, ◌||◌, ◌==◌, if◌then◌else◌, List, [], ◌∷◌, filter, refl}
use Rattle.std.specs.Prelude.{length, take}
use Rattle.std.specs.List.{list_any, list_all}
use Rattle.std.specs.Ordering.{nat_cmp, ordering_then, eq_by_cmp, is_eq}
use Rattle.std.specs.Cmp.{IsTotalOrder, Equal-is, nat_eq_equiv, nat_cmp_total, unsigned_tied, on_total, then_total}
use Rattle.std.specs.declared.cmp.Ordering.{Ordering}
use Rattle.std.specs.declared.cmp.Ordering.TheVariants.{Less, Equal, Greater}
use Rattle.std.specs.FinSet.{nat_cmp-IsAntisymmetric}
use Rattle.std.specs.FinSet as set
use Rattle.std.proofs.Common.{◌⊎◌, inl, inr, sym, ap, subst, ◌∙◌, eqb, get_or, nat_eq}
use Rattle.std.proofs.lemmas.Bool.{cases_eq, cases_Bool, eqb-true, eq-eqb, ne_eqb, or_left, or_right, or_cases, and_parts, and_from, false≢true}
use Rattle.std.proofs.lemmas.List.{take_all}
use Rattle.std.proofs.lemmas.List.Folds.{list_all_at}
use Rattle.mls_facts.specs.Each.{each}
use Rattle.mls_facts.proofs.Each.{each-contains, contains-each}
use Rattle.mls_facts.proofs.Passing.{same_tests}
use Rattle.mls_tables.specs.Held.{is_held, each_mode}
use Rattle.mls_facts.proofs.Sets as sets
use Rattle.mls_tables.specs.declared.mode.Mode.{Mode}
use Rattle.mls_tables.specs.declared.mode.Mode.TheVariants.{Execute, Read, Append, Write}
use Rattle.mls_tables.specs.Mode.{mode_number, mode_cmp, ModeSet}
use Rattle.mls_tables.specs.Triples.{Triple, TripleSet, triple_cmp, is_triple}
use Rattle.mls_tables.specs.Table.{without_object, without_objects}

-- the mode of a place
abbrev pub mode_of : ℕ → Mode
mode_of n = if n == 0 then Execute else if n == 1 then Read else if n == 2 then Append else Write

pub mode_of-mode_number : (x : Mode) → mode_of (mode_number x) ≡ x
mode_of-mode_number Execute = refl
mode_of-mode_number Read = refl
mode_of-mode_number Append = refl
mode_of-mode_number Write = refl

pub modes_total : IsTotalOrder mode_cmp
modes_total = on_total mode_number nat_cmp_total

-- modes with the same place are one
pub same_mode : (x y : Mode) → mode_cmp x y ≡ Equal → x ≡ y
same_mode x y e = sym (mode_of-mode_number x) ∙ ap mode_of (nat_cmp-IsAntisymmetric (mode_number x) (mode_number y) e) ∙ mode_of-mode_number y

-- two sets with the same modes are one
pub same_modes : (a b : ModeSet) → ((x : Mode) → set.contains a x ≡ set.contains b x) → a ≡ b
same_modes a b same = set.same_set modes_total same_mode a b same

pub triples_total : IsTotalOrder triple_cmp
triples_total = then_total (on_total (λ (t : Triple). t.0) nat_cmp_total) (then_total (on_total (λ (t : Triple). t.1) nat_cmp_total) (on_total (λ (t : Triple). mode_number t.2) nat_cmp_total))

same_parts : (a b c : Ordering) → ordering_then a (ordering_then b c) ≡ Equal → (a ≡ Equal) × (b ≡ Equal) × (c ≡ Equal)
same_parts Less b c e = cc
same_parts Greater b c e = cc
same_parts Equal Less c e = cc
same_parts Equal Greater c e = cc
same_parts Equal Equal c e = (refl, refl, e)

-- triples that tie in the order are one
pub same_triple : (t u : Triple) → triple_cmp t u ≡ Equal → t ≡ u
same_triple t u e =
    let parts = same_parts (nat_cmp t.0 u.0) (nat_cmp t.1 u.1) (nat_cmp (mode_number t.2) (mode_number u.2)) e in
    let subject : t.0 ≡ u.0 = nat_cmp-IsAntisymmetric t.0 u.0 parts.0 in
    let object : t.1 ≡ u.1 = nat_cmp-IsAntisymmetric t.1 u.1 parts.1 in
    let mode : t.2 ≡ u.2 = same_mode t.2 u.2 parts.2 in
    λ i. (subject i, object i, mode i)

tie : (a b : Ordering) → is_eq (ordering_then a b) ≡ (is_eq a && is_eq b)
tie Less b = refl
tie Equal b = refl
tie Greater b = refl

-- triples tie in the order where they are one
pub eq_by_cmp-triple : (t u : Triple) → eq_by_cmp triple_cmp t u ≡ is_triple t u
eq_by_cmp-triple t u =
    tie (nat_cmp t.0 u.0) (ordering_then (nat_cmp t.1 u.1) (nat_cmp (mode_number t.2) (mode_number u.2)))
    ∙ (λ i. is_eq (nat_cmp t.0 u.0) && tie (nat_cmp t.1 u.1) (nat_cmp (mode_number t.2) (mode_number u.2)) i)
    ∙ (λ i. unsigned_tied t.0 u.0 i && (unsigned_tied t.1 u.1 i && unsigned_tied (mode_number t.2) (mode_number u.2) i))

pub is_triple-itself : (t : Triple) → is_triple t t ≡ true
is_triple-itself t = let one : t.0 == t.0 ≡ true = nat_eq_equiv.refl t.0 in let two : t.1 == t.1 ≡ true = nat_eq_equiv.refl t.1 in let three : mode_number t.2 == mode_number t.2 ≡ true = nat_eq_equiv.refl (mode_number t.2) in rw (one, two, three) refl

pub is_triple-true : (t u : Triple) → is_triple t u ≡ true → t ≡ u
is_triple-true t u h = same_triple t u ((Equal-is (triple_cmp t u)).0 (eq_by_cmp-triple t u ∙ h))

is_triple-symm : (t u : Triple) → is_triple t u ≡ is_triple u t
is_triple-symm t u i = nat_eq_equiv.symm t.0 u.0 i && (nat_eq_equiv.symm t.1 u.1 i && nat_eq_equiv.symm (mode_number t.2) (mode_number u.2) i)

-- two sets with the same triples are one
pub same_triples : (b c : TripleSet) → ((t : Triple) → set.contains b t ≡ set.contains c t) → b ≡ c
same_triples b c same = set.same_set triples_total same_triple b c same

pub contains-insert-triple : (b : TripleSet) (t u : Triple) → set.contains (set.insert b t) u ≡ (is_triple u t || set.contains b u)
contains-insert-triple b t u = set.contains-insert triples_total b t u ∙ ap (λ e. e || set.contains b u) (eq_by_cmp-triple u t)

pub contains-remove-triple : (b : TripleSet) (t u : Triple) → set.contains (set.remove b t) u ≡ (not (is_triple u t) && set.contains b u)
contains-remove-triple b t u = set.contains-remove triples_total b t u ∙ ap (λ e. not e && set.contains b u) (eq_by_cmp-triple u t)

-- to insert a triple that is there changes nothing
pub insert-known : (b : TripleSet) (t : Triple) → set.contains b t ≡ true → set.insert b t ≡ b
insert-known b t there = sets.insert-known triples_total same_triple b t there

pub contains-from_list-triple : (ts : List Triple) (t : Triple) → set.contains (set.from_list {R = triple_cmp} ts) t ≡ list_any (λ u. is_triple u t) ts
contains-from_list-triple ts t = set.contains-from_list triples_total ts t ∙ ap (λ p. list_any p ts) (λ i u. (eq_by_cmp-triple t u ∙ is_triple-symm t u) i)

-- the triples of a list that pass a test
pub contains-from_list-filter : (p : Triple → Bool) (ts : List Triple) (t : Triple) → set.contains (set.from_list {R = triple_cmp} (filter p ts)) t ≡ (p t && set.contains (set.from_list {R = triple_cmp} ts) t)
contains-from_list-filter p ts t = sets.contains-from_list-filter triples_total p ts t (λ u e. ap p (sym (same_triple t u e)))

-- the triples of a set that pass a test
pub contains-retain-triple : (b : TripleSet) (p : Triple → Bool) (t : Triple) → set.contains (set.retain b p) t ≡ (set.contains b t && p t)
contains-retain-triple b p t = set.contains-retain b p t (λ u e. ap p (sym (same_triple t u e)))

-- the triples that are not of an object
pub contains-without_object : (ts : TripleSet) (o : ℕ) (t : Triple) → set.contains (without_object ts o) t ≡ (set.contains ts t && not (t.1 == o))
contains-without_object ts o t = contains-retain-triple ts (λ u. not (u.1 == o)) t

-- the triples that are of no object of a group
pub contains-without_objects : (ts : TripleSet) (group : List ℕ) (t : Triple) → set.contains (without_objects ts group) t ≡ (set.contains ts t && not (list_any (λ o. o == t.1) group))
contains-without_objects ts group t = contains-retain-triple ts (λ u. not (list_any (λ o. o == u.1) group)) t

-- who accesses in a mode accesses
pub held_at : (b : TripleSet) (s o : ℕ) (x : Mode) → set.contains b (s, o, x) ≡ true → is_held b s o ≡ true
held_at b s o Execute there = or_left _ _ there
held_at b s o Read there = or_right (set.contains b (s, o, Execute)) _ (or_left _ _ there)
held_at b s o Append there = or_right (set.contains b (s, o, Execute)) _ (or_right (set.contains b (s, o, Read)) _ (or_left _ _ there))
held_at b s o Write there = or_right (set.contains b (s, o, Execute)) _ (or_right (set.contains b (s, o, Read)) _ (or_right (set.contains b (s, o, Append)) _ there))

-- and who accesses does so in a mode
pub held_in : (b : TripleSet) (s o : ℕ) → is_held b s o ≡ true → (x : Mode) × (set.contains b (s, o, x) ≡ true)
held_in b s o held = from (cases_Bool (set.contains b (s, o, Execute))) (cases_Bool (set.contains b (s, o, Read))) (cases_Bool (set.contains b (s, o, Append))) where
  from : (set.contains b (s, o, Execute) ≡ true) ⊎ (set.contains b (s, o, Execute) ≡ false) → (set.contains b (s, o, Read) ≡ true) ⊎ (set.contains b (s, o, Read) ≡ false) → (set.contains b (s, o, Append) ≡ true) ⊎ (set.contains b (s, o, Append) ≡ false) → (x : Mode) × (set.contains b (s, o, x) ≡ true)
  from (inl a) _ _ = (Execute, a)
  from (inr _) (inl a) _ = (Read, a)
  from (inr _) (inr _) (inl a) = (Append, a)
  from (inr e) (inr r) (inr a) = (Write, rw (e, r, a) at held)

if_there : (there passes : Bool) → (not there || passes) ≡ true → there ≡ true → passes ≡ true
if_there true passes h is = h
if_there false passes h is = absurd (false≢true is)

where_there : (there passes : Bool) → (there ≡ true → passes ≡ true) → (not there || passes) ≡ true
where_there true passes h = h refl
where_there false passes h = refl

-- what passes in each mode passes in one
pub each_mode-at : (b : TripleSet) (s o : ℕ) (p : Triple → Bool) (x : Mode) → each_mode b s o p ≡ true → set.contains b (s, o, x) ≡ true → p (s, o, x) ≡ true
each_mode-at b s o p x all there = from x (and_parts _ _ all) there where
  from : (x : Mode) → ((not (set.contains b (s, o, Execute)) || p (s, o, Execute)) ≡ true) × (((not (set.contains b (s, o, Read)) || p (s, o, Read)) && ((not (set.contains b (s, o, Append)) || p (s, o, Append)) && (not (set.contains b (s, o, Write)) || p (s, o, Write)))) ≡ true) → set.contains b (s, o, x) ≡ true → p (s, o, x) ≡ true
  from Execute all there = if_there _ _ all.0 there
  from Read all there = if_there _ _ (and_parts _ _ all.1).0 there
  from Append all there = if_there _ _ (and_parts _ _ (and_parts (not (set.contains b (s, o, Read)) || p (s, o, Read)) _ all.1).1).0 there
  from Write all there = if_there _ _ (and_parts (not (set.contains b (s, o, Append)) || p (s, o, Append)) _ (and_parts (not (set.contains b (s, o, Read)) || p (s, o, Read)) _ all.1).1).1 there

pub each_mode-from : (b : TripleSet) (s o : ℕ) (p : Triple → Bool) → ((x : Mode) → set.contains b (s, o, x) ≡ true → p (s, o, x) ≡ true) → each_mode b s o p ≡ true
each_mode-from b s o p known = and_from _ _ (one Execute) (and_from _ _ (one Read) (and_from _ _ (one Append) (one Write))) where
  one : (x : Mode) → (not (set.contains b (s, o, x)) || p (s, o, x)) ≡ true
  one x = where_there (set.contains b (s, o, x)) (p (s, o, x)) (known x)

-- what passes for all numbers of a list passes for one of them
pub all_one : (q : ℕ → Bool) (k : ℕ) (xs : List ℕ) → list_all q xs ≡ true → list_any (eqb k) xs ≡ true → q k ≡ true
all_one q k [] all there = absurd (false≢true there)
all_one q k (x ∷ xs) all there = from (all_one q k xs (and_parts (q x) (list_all q xs) all).1) (or_cases (eqb k x) (list_any (eqb k) xs) there) where
  from : (list_any (eqb k) xs ≡ true → q k ≡ true) → (eqb k x ≡ true) ⊎ (list_any (eqb k) xs ≡ true) → q k ≡ true
  from rest (inl same) = ap q (eqb-true k x same) ∙ (and_parts (q x) (list_all q xs) all).0
  from rest (inr later) = rest later

pub all_each : (q : ℕ → Bool) (xs : List ℕ) → ((k : ℕ) → list_any (eqb k) xs ≡ true → q k ≡ true) → list_all q xs ≡ true
all_each q [] known = refl
all_each q (x ∷ xs) known = and_from (q x) (list_all q xs) (known x (or_left _ _ (eq-eqb x x refl))) (all_each q xs (λ k there. known k (or_right (eqb k x) _ there)))

-- each access of a subject passes where each of its objects does in each mode
pub row_passes : (b : TripleSet) (s : ℕ) (p : Triple → Bool) (os : List ℕ) → ((o : ℕ) → list_any (eqb o) os ≡ is_held b s o) → list_all (λ o. each_mode b s o p) os ≡ true → (t : Triple) → set.contains b t ≡ true → t.0 ≡ s → p t ≡ true
row_passes b s p os listed all t there own =
    let stands : set.contains b (s, t.1, t.2) ≡ true = subst (λ k. set.contains b (k, t.1, t.2) ≡ true) own there in
    subst (λ k. p (k, t.1, t.2) ≡ true) (sym own) (each_mode-at b s t.1 p t.2 (all_one (λ o. each_mode b s o p) t.1 os all (listed t.1 ∙ held_at b s t.1 t.2 stands)) stands)

pub passes_row : (b : TripleSet) (s : ℕ) (p : Triple → Bool) (os : List ℕ) → ((t : Triple) → set.contains b t ≡ true → t.0 ≡ s → p t ≡ true) → list_all (λ o. each_mode b s o p) os ≡ true
passes_row b s p os known = all_each (λ o. each_mode b s o p) os (λ o there. each_mode-from b s o p (λ x is. known (s, o, x) is refl))

-- each access to an object passes where each of its subjects does in each mode
pub column_passes : (b : TripleSet) (o : ℕ) (p : Triple → Bool) (ss : List ℕ) → ((s : ℕ) → list_any (eqb s) ss ≡ is_held b s o) → list_all (λ s. each_mode b s o p) ss ≡ true → (t : Triple) → set.contains b t ≡ true → t.1 ≡ o → p t ≡ true
column_passes b o p ss listed all t there own =
    let stands : set.contains b (t.0, o, t.2) ≡ true = subst (λ k. set.contains b (t.0, k, t.2) ≡ true) own there in
    subst (λ k. p (t.0, k, t.2) ≡ true) (sym own) (each_mode-at b t.0 o p t.2 (all_one (λ s. each_mode b s o p) t.0 ss all (listed t.0 ∙ held_at b t.0 o t.2 stands)) stands)

-- what a test lets pass of other subjects is told by the objects of one
pub each-row : (b : TripleSet) (s : ℕ) (p : Triple → Bool) (os : List ℕ) → ((o : ℕ) → list_any (eqb o) os ≡ is_held b s o) → ((t : Triple) → (t.0 ≡ s → ⊥) → p t ≡ true) → each b p ≡ list_all (λ o. each_mode b s o p) os
each-row b s p os listed others =
    same_tests _ _ (λ all. passes_row b s p os (λ t there own. each-contains triples_total same_triple b p t all there)) (λ all. contains-each triples_total same_triple b p (λ t there. from all t there (cases_eq t.0 s))) where
      from : list_all (λ o. each_mode b s o p) os ≡ true → (t : Triple) → set.contains b t ≡ true → (t.0 ≡ s) ⊎ (t.0 ≡ s → ⊥) → p t ≡ true
      from all t there (inl own) = row_passes b s p os listed all t there own
      from all t there (inr other) = others t other

-- and of other objects by the subjects of one
pub each-column : (b : TripleSet) (o : ℕ) (p : Triple → Bool) (ss : List ℕ) → ((s : ℕ) → list_any (eqb s) ss ≡ is_held b s o) → ((t : Triple) → (t.1 ≡ o → ⊥) → p t ≡ true) → each b p ≡ list_all (λ s. each_mode b s o p) ss
each-column b o p ss listed others =
    same_tests _ _ (λ all. all_each (λ s. each_mode b s o p) ss (λ s there. each_mode-from b s o p (λ x is. each-contains triples_total same_triple b p (s, o, x) all is)))
    (λ all. contains-each triples_total same_triple b p (λ t there. from all t there (cases_eq t.1 o))) where
      from : list_all (λ s. each_mode b s o p) ss ≡ true → (t : Triple) → set.contains b t ≡ true → (t.1 ≡ o) ⊎ (t.1 ≡ o → ⊥) → p t ≡ true
      from all t there (inl own) = column_passes b o p ss listed all t there own
      from all t there (inr other) = others t other

-- Tests of all triples of a subject, and of all triples of an object, by the lists of its objects and of its subjects.
module _ (b : TripleSet) (s : ℕ) (os : List ℕ) (p : Triple → Bool) (listed : (o : ℕ) → list_any (eqb o) os ≡ is_held b s o) where
  abbrev own : Triple → Bool
  own t = not (nat_eq t.0 s) || p t

  -- all accesses of the subject to an object are its own, so the test itself is asked of them
  own_cell : (o : ℕ) → each_mode b s o own ≡ each_mode b s o p
  own_cell o = let same : nat_eq s s ≡ true = eq-eqb s s refl in λ i. each_mode b s o (λ t. not (same i) || p t)

  row : each b own ≡ list_all (λ o. each_mode b s o p) os
  row = each-row b s own os listed (λ t other. ap (λ e. not e || p t) (ne_eqb t.0 s other)) ∙ (λ i. list_all (λ o. own_cell o i) os)

  -- the accesses to one of a subject's objects fail
  pub row_fails : (k o : ℕ) → k < length os → o ≡ get_or os k o → each_mode b s o p ≡ false → false ≡ each b own
  row_fails k o within is fails = sym (row ∙ list_all_at (λ a. each_mode b s a p) os k o within (ap (λ a. each_mode b s a p) (sym is) ∙ fails))

  -- those to all of them pass
  pub row_all : (k : ℕ) → length os ≤ k → list_all (λ o. each_mode b s o p) (take k os) ≡ true → true ≡ each b own
  row_all k past pass = sym (row ∙ ap (list_all (λ o. each_mode b s o p)) (sym (take_all k os past)) ∙ pass)

module _ (b : TripleSet) (o : ℕ) (ss : List ℕ) (p : Triple → Bool) (listed : (s : ℕ) → list_any (eqb s) ss ≡ is_held b s o) where
  abbrev held : Triple → Bool
  held t = not (nat_eq t.1 o) || p t

  -- all accesses of a subject to the object are to it, so the test itself is asked of them
  held_cell : (s : ℕ) → each_mode b s o held ≡ each_mode b s o p
  held_cell s = let same : nat_eq o o ≡ true = eq-eqb o o refl in λ i. each_mode b s o (λ t. not (same i) || p t)

  column : each b held ≡ list_all (λ s. each_mode b s o p) ss
  column = each-column b o held ss listed (λ t other. ap (λ e. not e || p t) (ne_eqb t.1 o other)) ∙ (λ i. list_all (λ s. held_cell s i) ss)

  -- the accesses of one of an object's subjects fail
  pub column_fails : (k s : ℕ) → k < length ss → s ≡ get_or ss k s → each_mode b s o p ≡ false → false ≡ each b held
  column_fails k s within is fails = sym (column ∙ list_all_at (λ a. each_mode b a o p) ss k s within (ap (λ a. each_mode b a o p) (sym is) ∙ fails))

  -- those of all of them pass
  pub column_all : (k : ℕ) → length ss ≤ k → list_all (λ s. each_mode b s o p) (take k ss) ≡ true → true ≡ each b held
  column_all k past pass = sym (column ∙ ap (list_all (λ s. each_mode b s o p)) (sym (take_all k ss past)) ∙ pass)
