-- The triples of a table, one after the other.
use Rattle.std.proofs.Common.{◌≡◌, ℕ, ◌+◌, ◌<◌, ◌≤◌, Bool, true, false, List, [], ◌∷◌, ◌++◌, filter, cond, refl, sym, ap, ◌∙◌, append-nil, arith, nat_lt}
use Rattle.std.proofs.lemmas.Bool.Decides.{nat_tests}
use Rattle.std.proofs.lemmas.Bool.{and_parts}
use Rattle.std.proofs.lemmas.List.{append_assoc}
use Rattle.std.specs.FinSet as set
use Rattle.mls_facts.proofs.Gathered.{range_flat_more}
use Rattle.mls_state.specs.Properties.{HasTree}
use Rattle.mls_state.specs.State.{State, is_subject, is_active}
use Rattle.mls_state.specs.Tables.{triples_of}
use Rattle.mls_state.specs.declared.table.Table.{Table}
use Rattle.mls_state.specs.declared.table.Table.TheVariants.{Matrix, Accesses}
use Rattle.mls_tables.proofs.Once.{from_list-each_below}
use Rattle.mls_tables.specs.Once.{accesses_at}
use Rattle.mls_tables.specs.Table.{IsWithin}
use Rattle.mls_tables.specs.Triples.{Triple, TripleSet, triple_cmp}
use Rattle.mls_tables.specs.declared.limits.TheConstants.{MAX_SUBJECTS, MAX_OBJECTS}
use Rattle.mls_start.specs.TripleLists.{row_below, rows_below}

-- a list to which nothing is added yet
pub begins : (old part : List Triple) → part ≡ [] → old ≡ old ++ part
begins old part none = sym (append-nil old) ∙ ap (λ t. old ++ t) (sym none)

pub row_none : (b : TripleSet) (s : ℕ) → row_below b s 0 ≡ []
unfolding row_below
row_none b s = refl

pub row_more : (b : TripleSet) (s n : ℕ) → row_below b s (n + 1) ≡ row_below b s n ++ accesses_at b s n
unfolding row_below
row_more b s n = range_flat_more (λ o. accesses_at b s o) n

pub rows_none : (b : TripleSet) (m : ℕ) → rows_below b 0 m ≡ []
unfolding rows_below
rows_none b m = refl

pub rows_more : (b : TripleSet) (n m : ℕ) → rows_below b (n + 1) m ≡ rows_below b n m ++ row_below b n m
unfolding rows_below
rows_more b n m = range_flat_more (λ s. row_below b s m) n

module _ (p : Triple → Bool) where
  abbrev only : Triple → List Triple
  only t = cond (p t) (t ∷ []) []

  kept_first : (t : Triple) (ts : List Triple) → filter p (t ∷ ts) ≡ only t ++ filter p ts
  kept_first t ts = elim (p t) as (λ b. cond b (t ∷ filter p ts) (filter p ts) ≡ cond b (t ∷ []) [] ++ filter p ts) [
    | true ↦ refl
    | false ↦ refl
  ]

  -- four triples, each where it is there
  pub four_pushed : (a b c d : Triple) (pa pb pc pd : Bool) (t0 t1 t2 t3 t4 : List Triple)
      → pa ≡ p a → pb ≡ p b → pc ≡ p c → pd ≡ p d → t1 ≡ t0 ++ cond pa (a ∷ []) [] → t2 ≡ t1 ++ cond pb (b ∷ []) []
      → t3 ≡ t2 ++ cond pc (c ∷ []) [] → t4 ≡ t3 ++ cond pd (d ∷ []) [] → t4 ≡ t0 ++ filter p (a ∷ b ∷ c ∷ d ∷ [])
  four_pushed a b c d pa pb pc pd t0 t1 t2 t3 t4 ea eb ec ed e1 e2 e3 e4 =
      e4 ∙ ap (λ t. t ++ cond pd (d ∷ []) []) (e3 ∙ ap (λ t. t ++ cond pc (c ∷ []) []) (e2 ∙ ap (λ t. t ++ cond pb (b ∷ []) []) e1))
      ∙ (λ i. (((t0 ++ cond (ea i) (a ∷ []) []) ++ cond (eb i) (b ∷ []) []) ++ cond (ec i) (c ∷ []) []) ++ cond (ed i) (d ∷ []) [])
      ∙ append_assoc ((t0 ++ only a) ++ only b) (only c) (only d) ∙ append_assoc (t0 ++ only a) (only b) (only c ++ only d)
      ∙ append_assoc t0 (only a) (only b ++ (only c ++ only d))
      ∙ ap (λ t. t0 ++ t) (sym (kept_first a (b ∷ c ∷ d ∷ [])
      ∙ ap (λ t. only a ++ t) (kept_first b (c ∷ d ∷ [])
      ∙ ap (λ t. only b ++ t) (kept_first c (d ∷ [])
      ∙ ap (λ t. only c ++ t) (kept_first d [] ∙ append-nil (only d))))))

-- the triples of a table name what is there
known : (v : State) (table : Table) (n : ℕ) → HasTree v → ((s : ℕ) → is_subject v s ≡ nat_lt s n) → IsWithin n MAX_OBJECTS (triples_of table v)
known v table n tree count t there = (below, tree.objects.below t.1 both.1) where
  named : (table : Table) → set.contains (triples_of table v) t ≡ true → (is_subject v t.0 ≡ true) × (is_active v t.1 ≡ true)
  named Matrix there = and_parts (is_subject v t.0) (is_active v t.1) (tree.matrix_known t there)
  named Accesses there = and_parts (is_subject v t.0) (is_active v t.1) (tree.accesses_known t there)

  both : (is_subject v t.0 ≡ true) × (is_active v t.1 ≡ true)
  both = named table there

  below : t.0 < n
  below = let less : nat_lt t.0 n ≡ true = sym (count t.0) ∙ both.0 in grind (arith, nat_tests, less)

-- a table has as many triples as were gathered, each counted once
pub counted : (v : State) (table : Table) (n : ℕ) (triples : List Triple) → HasTree v → ((s : ℕ) → is_subject v s ≡ nat_lt s n) → n ≤ MAX_SUBJECTS
    → triples ≡ [] ++ rows_below (triples_of table v) n MAX_OBJECTS
    → set.len (set.from_list {R = triple_cmp} triples) ≡ set.len (triples_of table v)
unfolding row_below rows_below
counted v table n triples tree count few gathered =
    ap (λ ts. set.len (set.from_list {R = triple_cmp} ts)) gathered
    ∙ ap (λ b. set.len b) (from_list-each_below (triples_of table v) n MAX_OBJECTS few (omega arith) (known v table n tree count))
