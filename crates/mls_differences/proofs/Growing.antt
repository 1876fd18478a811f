-- Rows that grow, number by number.
use Rattle.std.proofs.Common.{◌≡◌, ℕ, ◌+◌, List, [], ◌++◌, refl, sym, ap, ◌∙◌, append-nil}
use Rattle.std.specs.List.{slice_get}
use Rattle.std.proofs.lemmas.List.{append_assoc}
use Rattle.mls_facts.proofs.Gathered.{grows, range_flat_more}
use Rattle.mls_differences.specs.Counting.{counts_below, subject_counts}
use Rattle.mls_differences.specs.Counterparts.{counterpart, shared_as, shared}
use Rattle.mls_differences.specs.Singles.{name_rows, names_rows}
use Rattle.mls_differences.specs.declared.case.Case.{Case}
use Rattle.mls_differences.specs.declared.count.Count.{Count}
use Rattle.mls_differences.specs.declared.side.Side.{Side}
use Rattle.mls_differences.specs.declared.single.Kind.{Kind}
use Rattle.mls_differences.specs.declared.single.Single.{Single}

-- what numbers have a counterpart, below none and below the next
pub shared_none : (names others : List (List ℕ)) → shared names others 0 ≡ []
unfolding shared
shared_none names others = refl

pub shared_more : (names others : List (List ℕ)) (n : ℕ)
    → shared names others (n + 1) ≡ shared names others n ++ shared_as n (counterpart names others n)
unfolding shared
shared_more names others n = range_flat_more (λ k. shared_as k (counterpart names others k)) n

-- the rows of the names that a start alone has, of the numbers below none and below the next
pub names_none : (side : Side) (kind : Kind) (names others : List (List ℕ)) (old : List Single) → old ≡ old ++ names_rows side kind names others 0
unfolding names_rows
names_none side kind names others old = sym (append-nil old)

names_next : (side : Side) (kind : Kind) (names others : List (List ℕ)) (n : ℕ)
    → names_rows side kind names others (n + 1) ≡ names_rows side kind names others n ++ name_rows side kind others n (slice_get names n)
unfolding names_rows
names_next side kind names others n = range_flat_more (λ k. name_rows side kind others k (slice_get names k)) n

pub names_more : (side : Side) (kind : Kind) (names others : List (List ℕ)) (n : ℕ) (old now new : List Single)
    → now ≡ old ++ names_rows side kind names others n → new ≡ now ++ name_rows side kind others n (slice_get names n)
    → new ≡ old ++ names_rows side kind names others (n + 1)
names_more side kind names others n old now new so_far added =
    grows old now new (names_rows side kind names others n) (names_rows side kind names others (n + 1))
    (name_rows side kind others n (slice_get names n)) so_far added (names_next side kind names others n)

-- the rows of counts of the subjects below none and below the next
pub counts_none : (cases : List Case) (old : List Count) → old ≡ old ++ counts_below cases 0
unfolding counts_below
counts_none cases old = sym (append-nil old)

counts_next : (cases : List Case) (n : ℕ) → counts_below cases (n + 1) ≡ counts_below cases n ++ subject_counts cases n
unfolding counts_below
counts_next cases n = range_flat_more (subject_counts cases) n

pub counts_more : (cases : List Case) (n : ℕ) (old now new : List Count) → now ≡ old ++ counts_below cases n
    → new ≡ now ++ subject_counts cases n → new ≡ old ++ counts_below cases (n + 1)
counts_more cases n old now new so_far added =
    grows old now new (counts_below cases n) (counts_below cases (n + 1)) (subject_counts cases n) so_far added (counts_next cases n)

-- a list to which two are added in turn
pub grown : {X : Type 0} (t0 t1 t2 a b : List X) → t1 ≡ t0 ++ a → t2 ≡ t1 ++ b → t2 ≡ t0 ++ (a ++ b)
grown t0 t1 t2 a b first second = second ∙ ap (λ t. t ++ b) first ∙ append_assoc t0 a b
