-- Groups of keys, told as groups of denied entries.
use Rattle.std.proofs.Common.{◌≡◌, ℕ, ◌+◌, List, [], ◌∷◌, ◌++◌, length, refl, sym, ap, ◌∙◌, subst}
use Rattle.std.specs.Prelude.{map}
use Rattle.std.specs.List.{All, AllByRecursion, slice_get, sum_by}
use Rattle.std.specs.Prelude.{Some}
use Rattle.std.proofs.lemmas.List.Elements.{All-from_recursion, All-push, recursion_from_All}
use Rattle.std.proofs.lemmas.List.Sums.{sum_by-cons}
use Rattle.mls_groups.specs.Groups.{Counts, times, total}
use Rattle.mls_groups.specs.declared.grouping.Group.{Group}
use Rattle.mls_requests.specs.declared.entry.Entry.{Entry}
use Rattle.mls_overview.specs.Denials.{IsGrouped, IsOf, key_denied, key_found, keys_denied, said_by, said_of}
use Rattle.mls_overview.specs.declared.denial.Denial.{Denial}

-- What is said counts keys as often as they are there.
abbrev Exact : List ℕ → (ℕ × ℕ) → Type 0
Exact keys p = p.1 ≡ times p.0 keys

each_said : (keys : List ℕ) (groups : List Group) → AllByRecursion (λ g. g.count ≡ times g.key keys) groups → AllByRecursion (Exact keys) (map said_by groups)
each_said keys [] h = tt
each_said keys (g ∷ groups) h = (h.0, each_said keys groups h.1)

each_denial : (keys : List ℕ) (found : List Denial) → AllByRecursion (Exact keys) (map said_of found) → AllByRecursion (λ d. d.count ≡ times d.key keys) found
each_denial keys [] h = tt
each_denial keys (d ∷ found) h = (h.0, each_denial keys found h.1)

total_said : (groups : List Group) → sum_by (λ p. p.1) (map said_by groups) ≡ total groups
total_said [] = refl
total_said (g ∷ groups) = sum_by-cons (λ (p : ℕ × ℕ). p.1) (said_by g) (map said_by groups) ∙ ap (λ n. g.count + n) (total_said groups) ∙ sym (sum_by-cons (λ (a : Group). a.count) g groups)

sum_said : (found : List Denial) → sum_by (λ p. p.1) (map said_of found) ≡ sum_by (λ d. d.count) found
sum_said [] = refl
sum_said (d ∷ found) = sum_by-cons (λ (p : ℕ × ℕ). p.1) (said_of d) (map said_of found) ∙ ap (λ n. d.count + n) (sum_said found) ∙ sym (sum_by-cons (λ (a : Denial). a.count) d found)

-- what tells the groups of the keys of denied entries has these entries
pub is_grouped : (entries : List Entry) (groups : List Group) (found : List Denial) → Counts (keys_denied entries) groups → map said_of found ≡ map said_by groups → All (IsOf entries) found
    → IsGrouped entries found
is_grouped entries groups found counts are last_of =
    let keys = keys_denied entries in
    record {
      each = All-from_recursion (λ (d : Denial). d.count ≡ times d.key keys) found
          (each_denial keys found (subst (AllByRecursion (Exact keys)) (sym are)
          (each_said keys groups (recursion_from_All (λ (g : Group). g.count ≡ times g.key keys) groups counts.each))));
      whole = sym (sum_said found) ∙ ap (sum_by (λ (p : ℕ × ℕ). p.1)) are ∙ total_said groups ∙ counts.whole;
      last = last_of;
    }

-- one group more is told
pub said_more : (found : List Denial) (d : Denial) → map said_of (found ++ d ∷ []) ≡ map said_of found ++ said_of d ∷ []
said_more [] d = refl
said_more (a ∷ found) d = ap (λ t. said_of a ∷ t) (said_more found d)

-- the last entry of one group more
pub last_more : (entries : List Entry) (found : List Denial) (d : Denial) → All (IsOf entries) found → IsOf entries d → All (IsOf entries) (found ++ d ∷ [])
last_more entries found d all one = All-push (IsOf entries) found d all one

-- the entry at a place is the last of a group
pub last_at : (entries : List Entry) (d : Denial) (place : ℕ) (entry : Entry) → slice_get entries place ≡ Some entry → d.last ≡ place → key_denied entry ≡ d.key ∷ [] → IsOf entries d
last_at entries d place entry here at is = record { key_is = ap (λ p. key_found (slice_get entries p)) at ∙ ap key_found here ∙ is }
