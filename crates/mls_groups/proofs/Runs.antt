-- Runs of equal keys in ascending lists, and how many of each there are.
use Rattle.std.proofs.Common.{◌≡◌, ℕ, zero, suc, ◌+◌, ◌-◌, ◌<◌, ◌≤◌, true, false, List, [], ◌∷◌, ◌++◌, length, cond, refl, sym, ap, ◌∙◌, subst, arith, inl, inr, drop, slice_index_or}
use Rattle.std.specs.Prelude.{◌==◌, map}
use Rattle.std.specs.List.{AllByRecursion, sum_by}
use Rattle.std.specs.List.Sorted.{IsNonDecreasing, IsNonDecreasingBy, IsPermutation}
use Rattle.std.proofs.Math.ListN.{drop_of_length-le}
use Rattle.std.proofs.Math.Seq.{drop-cons}
use Rattle.std.proofs.lemmas.List.{append_assoc}
use Rattle.std.proofs.lemmas.Bool.{cases_Bool, cases_lt, eq-eqb, eqb-false, eqb-true, ne_eqb}
use Rattle.std.proofs.lemmas.List.Elements.{All-from_recursion}
use Rattle.std.proofs.lemmas.List.Sorted.{IsNonDecreasingBy-drop, sum_by-IsPermutation, length_permutation}
use Rattle.std.proofs.lemmas.List.Sums.{sum_by-cons}
use Rattle.mls_groups.specs.Groups.{Counts, run_of, runs, runs_from, times, total}
use Rattle.mls_groups.specs.declared.grouping.Group.{Group}

-- Keys behind one ascend from it.
abbrev pub Ascends : ℕ → List ℕ → Type 0
Ascends k [] = Unit {0}
Ascends k (j ∷ rest) = (k ≤ j) × Ascends j rest

pub ascends : (k : ℕ) (rest : List ℕ) → IsNonDecreasing (k ∷ rest) → Ascends k rest
ascends k [] h = tt
ascends k (j ∷ rest) h = (h 0 1 0 (omega arith) (omega arith), ascends j rest (IsNonDecreasingBy-drop (λ x. x) 1 (k ∷ j ∷ rest) h))

-- the runs have all keys
sum_runs : (k n : ℕ) (rest : List ℕ) → sum_by (λ p. p.1) (runs_from k n rest) ≡ n + length rest
sum_runs k n [] = sum_by-cons (λ (p : ℕ × ℕ). p.1) (k, n) []
sum_runs k n (j ∷ rest) = elim (cases_Bool (j == k)) [
  | inl is ↦ rw is (let more = sum_runs k (n + 1) rest in omega (arith, more))
  | inr nope ↦ rw nope (let more = sum_runs j 1 rest in let one = sum_by-cons (λ (p : ℕ × ℕ). p.1) (k, n) (runs_from j 1 rest) in omega (arith, more, one))
]

-- how often a key stands among keys, by the first
times_more : (k j : ℕ) (rest : List ℕ) → times k (j ∷ rest) ≡ cond (j == k) 1 0 + times k rest
times_more k j rest = sum_by-cons (λ x. cond (x == k) 1 0) j rest

different : (a b : ℕ) → a < b → (b == a) ≡ false
different a b h = ne_eqb b a (λ e. omega (arith, h, e))

-- a key below all isn't there
times_none : (k j : ℕ) (rest : List ℕ) → k < j → Ascends j rest → times k (j ∷ rest) ≡ 0
times_none k j [] h up = times_more k j [] ∙ rw (different k j h) refl
times_none k j (i ∷ rest) h up = times_more k j (i ∷ rest) ∙ rw (different k j h) (let e = times_none k i rest (let le = up.0 in omega (arith, h, le)) up.1 in omega (arith, e))

-- What is said of a run: its key isn't below k, and it counts those that are there, n of k before them.
abbrev Run : ℕ → ℕ → List ℕ → (ℕ × ℕ) → Type 0
Run k n rest p = (k ≤ p.0) × (p.1 ≡ cond (k == p.0) n 0 + times p.0 rest)

each_by : {X : Type 0} (P Q : X → Type 0) → ((x : X) → P x → Q x) → (xs : List X) → AllByRecursion P xs → AllByRecursion Q xs
each_by P Q f [] h = tt
each_by P Q f (x ∷ xs) h = (f x h.0, each_by P Q f xs h.1)

same : (k : ℕ) → (k == k) ≡ true
same k = eq-eqb k k refl

equal : (a b : ℕ) → (a == b) ≡ true → a ≡ b
equal a b h = eqb-true a b h

-- one more of the key itself
run_more : (k n : ℕ) (rest : List ℕ) (p : ℕ × ℕ) → Run k (n + 1) rest p → Run k n (k ∷ rest) p
run_more k n rest p h = (
  h.0,
  elim (cases_Bool (k == p.0)) [
    | inl is ↦ rw (times_more p.0 k rest, is) (let e : p.1 ≡ cond (k == p.0) (n + 1) 0 + times p.0 rest = h.1 in let f : p.1 ≡ (n + 1) + times p.0 rest = subst (λ b. p.1 ≡ cond b (n + 1) 0 + times p.0 rest) is e in omega (arith, f))
    | inr nope ↦ rw (times_more p.0 k rest, nope) (let f : p.1 ≡ 0 + times p.0 rest = subst (λ b. p.1 ≡ cond b (n + 1) 0 + times p.0 rest) nope h.1 in omega (arith, f))
  ],
)

-- one more of a greater key, behind which k isn't there
run_next : (k n j : ℕ) (rest : List ℕ) (p : ℕ × ℕ) → k < j → Run j 1 rest p → Run k n (j ∷ rest) p
run_next k n j rest p up h =
    let le : j ≤ p.0 = h.0 in
    let above : k < p.0 = omega (arith, up, le) in
    let not_k : (k == p.0) ≡ false = ne_eqb k p.0 (λ e. omega (arith, above, e)) in
    (omega (arith, above), rw (times_more p.0 j rest, not_k) (let e = h.1 in omega (arith, e)))

-- the run of k itself, where a greater key follows
run_ends : (k n j : ℕ) (rest : List ℕ) → k < j → Ascends j rest → Run k n (j ∷ rest) (k, n)
run_ends k n j rest up more = (omega arith, rw (same k, times_none k j rest up more) (omega arith))

less : (k j : ℕ) → k ≤ j → (j == k) ≡ false → k < j
less k j h other = elim (cases_lt k j) [
  | inl lt ↦ lt
  | inr ge ↦ absurd (eqb-false j k other (omega (arith, h, ge)))
]

each_run : (k n : ℕ) (rest : List ℕ) → Ascends k rest → AllByRecursion (Run k n rest) (runs_from k n rest)
each_run k n [] up = ((omega arith, rw (same k) (omega arith)), tt)
each_run k n (j ∷ rest) up = elim (cases_Bool (j == k)) [
  | inl is ↦ rw is (
      let e : j ≡ k = equal j k is in
      let more : Ascends k rest = subst (λ i. Ascends i rest) e up.1 in
      subst (λ i. AllByRecursion (Run k n (i ∷ rest)) (runs_from k (n + 1) rest)) (sym e)
      (each_by (Run k (n + 1) rest) (Run k n (k ∷ rest)) (run_more k n rest) (runs_from k (n + 1) rest) (each_run k (n + 1) rest more)))
  | inr nope ↦ rw nope (
      let over : k < j = less k j up.0 nope in
      (run_ends k n j rest over up.1, each_by (Run j 1 rest) (Run k n (j ∷ rest)) (λ p. run_next k n j rest p over) (runs_from j 1 rest) (each_run j 1 rest up.1)))
]

-- What is counted by a run: all that are there of its key.
abbrev Exact : List ℕ → (ℕ × ℕ) → Type 0
Exact keys p = p.1 ≡ times p.0 keys

exact_first : (k : ℕ) (rest : List ℕ) (p : ℕ × ℕ) → Run k 1 rest p → Exact (k ∷ rest) p
exact_first k rest p h = h.1 ∙ sym (times_more p.0 k rest)

-- the runs of ascending keys count each key as often as it is there
pub exact_runs : (keys : List ℕ) → IsNonDecreasing keys → AllByRecursion (Exact keys) (runs keys)
exact_runs [] h = tt
exact_runs (k ∷ rest) h = each_by (Run k 1 rest) (Exact (k ∷ rest)) (exact_first k rest) (runs_from k 1 rest) (each_run k 1 rest (ascends k rest h))

pub whole_runs : (keys : List ℕ) → sum_by (λ p. p.1) (runs keys) ≡ length keys
whole_runs [] = refl
whole_runs (k ∷ rest) = sum_runs k 1 rest ∙ omega arith

each_group : (keys : List ℕ) (groups : List Group) → AllByRecursion (Exact keys) (map run_of groups) → AllByRecursion (λ g. g.count ≡ times g.key keys) groups
each_group keys [] h = tt
each_group keys (g ∷ groups) h = (h.0, each_group keys groups h.1)

total_runs : (groups : List Group) → sum_by (λ p. p.1) (map run_of groups) ≡ total groups
total_runs [] = refl
total_runs (g ∷ groups) = sum_by-cons (λ (p : ℕ × ℕ). p.1) (run_of g) (map run_of groups) ∙ ap (λ n. g.count + n) (total_runs groups) ∙ sym (sum_by-cons (λ (a : Group). a.count) g groups)

-- groups that are the runs of ascending keys count them
pub groups_count : (keys : List ℕ) (groups : List Group) → IsNonDecreasing keys → map run_of groups ≡ runs keys → Counts keys groups
groups_count keys groups up are = record {
  each = All-from_recursion (λ (g : Group). g.count ≡ times g.key keys) groups (each_group keys groups (subst (AllByRecursion (Exact keys)) (sym are) (exact_runs keys up)));
  whole = sym (total_runs groups) ∙ ap (sum_by (λ (p : ℕ × ℕ). p.1)) are ∙ whole_runs keys;
}

-- what counts keys counts them in another order
pub counts_permuted : (keys others : List ℕ) (groups : List Group) → IsPermutation keys others → Counts others groups → Counts keys groups
counts_permuted keys others groups same counts = record {
  each = λ i d within. counts.each i d within ∙ sum_by-IsPermutation (λ j. cond (j == (slice_index_or groups i d).key) 1 0) keys others same;
  whole = counts.whole ∙ length_permutation keys others same;
}

-- one key more of the same
pub follow_same : (k b i next : ℕ) (front : List (ℕ × ℕ)) (rest : List ℕ) → b < i → (next == k) ≡ true
    → front ++ runs_from k (i + 1 - b) rest ≡ front ++ runs_from k (i - b) (next ∷ rest)
follow_same k b i next front rest lo is =
    let n : i + 1 - b ≡ i - b + 1 = omega (arith, lo) in
    ap (λ m. front ++ runs_from k m rest) n
    ∙ ap (λ t. front ++ cond t (runs_from k (i - b + 1) rest) ((k, i - b) ∷ runs_from next 1 rest)) (sym is)

-- a list of groups, with one more
pub runs_push : (groups : List Group) (g : Group) → map run_of (groups ++ g ∷ []) ≡ map run_of groups ++ run_of g ∷ []
runs_push [] g = refl
runs_push (a ∷ groups) g = ap (λ t. run_of a ∷ t) (runs_push groups g)

-- another key ends a run
pub follow_next : (k b i next : ℕ) (groups new : List Group) (g : Group) (rest : List ℕ) → run_of g ≡ (k, i - b) → new ≡ groups ++ g ∷ [] → (next == k) ≡ false
    → map run_of new ++ runs_from next (i + 1 - i) rest ≡ map run_of groups ++ runs_from k (i - b) (next ∷ rest)
follow_next k b i next groups new g rest of are other =
    let n : i + 1 - i ≡ 1 = omega arith in
    ap (λ gs. map run_of gs ++ runs_from next (i + 1 - i) rest) are
    ∙ ap (λ t. t ++ runs_from next (i + 1 - i) rest) (runs_push groups g)
    ∙ append_assoc (map run_of groups) (run_of g ∷ []) (runs_from next (i + 1 - i) rest)
    ∙ ap (λ r. map run_of groups ++ r ∷ runs_from next (i + 1 - i) rest) of
    ∙ ap (λ m. map run_of groups ++ (k, i - b) ∷ runs_from next m rest) n
    ∙ ap (λ t. map run_of groups ++ cond t (runs_from k (i - b + 1) rest) ((k, i - b) ∷ runs_from next 1 rest)) (sym other)

-- the keys from a place on
pub drop_here : (keys : List ℕ) (i : ℕ) → i < length keys → drop i keys ≡ slice_index_or keys i 0 ∷ drop (i + 1) keys
drop_here keys i h =
    let next : suc i ≡ i + 1 = omega arith in
    drop-cons keys i 0 h ∙ ap (λ n. slice_index_or keys i 0 ∷ drop n keys) next

-- the last run
pub last_step : (keys : List ℕ) (k b i : ℕ) (front whole : List (ℕ × ℕ)) → length keys ≤ i → i ≤ length keys → front ++ runs_from k (i - b) (drop i keys) ≡ whole
    → front ++ (k, length keys - b) ∷ [] ≡ whole
last_step keys k b i front whole hi lo h =
    let same_end : i ≡ length keys = omega (arith, hi, lo) in
    let e : drop i keys ≡ [] = drop_of_length-le keys hi in
    ap (λ m. front ++ (k, m - b) ∷ []) (sym same_end) ∙ ap (λ t. front ++ runs_from k (i - b) t) (sym e) ∙ h

-- the key of a member at a place
pub key_at : (ms : List (ℕ × ℕ)) (i d : ℕ) → slice_index_or (map (λ m. m.0) ms) i d ≡ (slice_index_or ms i (d, 0)).0
key_at [] i d = refl
key_at (m ∷ ms) zero d = refl
key_at (m ∷ ms) (suc i) d = key_at ms i d

keys_many : (ms : List (ℕ × ℕ)) → length (map (λ (m : ℕ × ℕ). m.0) ms) ≡ length ms
keys_many [] = refl
keys_many (m ∷ ms) = ap (λ n. suc n) (keys_many ms)

-- the keys of members that ascend by their keys ascend
pub keys_in_order : (ms : List (ℕ × ℕ)) → IsNonDecreasingBy (λ m. m.0) ms → IsNonDecreasing (map (λ m. m.0) ms)
keys_in_order ms h i j d le within =
    rw (key_at ms i d, key_at ms j d) (h i j (d, 0) le (subst (λ n. j < n) (keys_many ms) within))

-- the keys of members, with one more
pub keys_push : (ms : List (ℕ × ℕ)) (m : ℕ × ℕ) → map (λ (a : ℕ × ℕ). a.0) (ms ++ m ∷ []) ≡ map (λ (a : ℕ × ℕ). a.0) ms ++ m.0 ∷ []
keys_push [] m = refl
keys_push (a ∷ ms) m = ap (λ t. a.0 ∷ t) (keys_push ms m)
