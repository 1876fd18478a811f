-- Names, schemes and states that are compared, and what their comparison is of.
use Rattle.std.proofs.Common.{◌≡◌, ℕ, ◌<◌, Bool, true, false, Bor, List, Option, Some, None, Result, Ok, Err, refl, sym, ap, subst, ◌∙◌}
use Rattle.std.specs.Prelude.{nat_lt, is_some, option_map, slice_get, IfOk, IsTrue}
use Rattle.std.specs.declared.alloc.AllocError.{AllocError}
use Rattle.mls_labels.specs.declared.limits.TheConstants.{MAX_LEVELS, MAX_CATEGORIES}
use Rattle.mls_labels.specs.Scheme.{Scheme, IsScheme, bounds_of}
use Rattle.mls_lines.specs.Names.{Names}
use Rattle.mls_start_file.specs.Says.{SaysStart}
use Rattle.mls_start_file.specs.Ties.{AreTied, Loaded}
use Rattle.mls_state.specs.State.{State, is_active}
use Rattle.mls_snapshots.specs.Orders.{IsOrder}
use Rattle.mls_snapshots.specs.Renaming.{AreRenamed, IsFirstFree, IsNameOf, IsNamed}
use Rattle.mls_snapshots.specs.Renumbering.{IsSameBy}
use Rattle.mls_snapshots.specs.Starts.{IsStartBy}
use Rattle.mls_snapshots.specs.Schemes.{level_alone, lowest_with, IsWrittenAlike}
use Rattle.mls_snapshots.proofs.Gets.{same_until}
use Rattle.mls_snapshots.proofs.SchemeTexts.{schemes_same}

-- an object that had a name has it
pub named_old : (old new : List (List ℕ)) (k o : ℕ) (name given : List ℕ) → Some name ≡ slice_get new k → Some given ≡ slice_get old o → name ≡ given
    → IsNamed old new k o
named_old old new k o name given at there same = (name, sym at, subst (λ (g : Option (List ℕ)). IsNameOf old new k o g name) there same)

-- an object that had none has the first that is free
pub named_new : (old new : List (List ℕ)) (k o : ℕ) (name : List ℕ) (r : Result Bool AllocError) → Some name ≡ slice_get new k → None ≡ slice_get old o
    → IfOk r (λ first. IsTrue first → IsFirstFree old new k o name) → IfOk r (λ named. IsTrue named → IsNamed old new k o)
named_new old new k o name (Ok first) at none free =
    λ is. (name, sym at, subst (λ (g : Option (List ℕ)). IsNameOf old new k o g name) none (free is))
named_new old new k o name (Err fault) at none free = tt

none_of : (name : Option (Bor (List ℕ))) → is_some name ≡ false → option_map (λ n. n.now) name ≡ None
none_of None none = refl
none_of (Some n) none = absurd (let no : true ≡ false = none in cc)

-- names that are the same up to where both end
pub names_until : (xs ys : List (List ℕ)) (one other : Option (Bor (List ℕ))) (s i j : ℕ) → ((k : ℕ) → k < s → slice_get ys k ≡ slice_get xs k) → i ≡ s → j ≡ s
    → option_map (λ n. n.now) one ≡ slice_get xs i → option_map (λ n. n.now) other ≡ slice_get ys j
    → option_map (λ n. n.now) other ≡ option_map (λ n. n.now) one → is_some one ≡ false → ys ≡ xs
names_until xs ys one other s i j below first second at there same none =
    let end : option_map (λ n. n.now) one ≡ None = none_of one none in
    same_until xs ys s below (sym (ap (slice_get xs) first) ∙ sym at ∙ end) (sym (ap (slice_get ys) second) ∙ sym there ∙ same ∙ end)

-- schemes that are compared
pub schemes_alike : (a b : Scheme) (r : Result Bool AllocError) → IsScheme a → bounds_of a ≡ bounds_of b
    → ((n : ℕ) → n < MAX_LEVELS → IsWrittenAlike a b (level_alone n))
    → IfOk r (λ alike. IsTrue alike → (n : ℕ) → n < MAX_CATEGORIES → IsWrittenAlike a b (lowest_with n)) → IfOk r (λ same. IsTrue same → b ≡ a)
schemes_alike a b (Ok alike) sound bounds levels categories = λ is. schemes_same a b sound bounds levels (categories is)
schemes_alike a b (Err fault) sound bounds levels categories = tt

-- a start's objects are those of the numbers below how many there are
pub active_of : (names : Names) (start opening : State) (n : ℕ) → AreTied names start → opening ≡ start → start.next ≡ n → (k : ℕ) → is_active opening k ≡ nat_lt k n
active_of names start opening n tied same next k = ap (λ (v : State). is_active v k) same ∙ tied.active k ∙ ap (nat_lt k) (sym tied.next ∙ next)

-- a text whose start is compared with a state
pub start_is : (named : Names) (v : State) (text bytes order : List ℕ) (loaded : Loaded) (r : Result Bool AllocError)
    → bytes ≡ text → SaysStart bytes loaded
    → IfOk r (λ like. IsTrue like → IsOrder v order) → IfOk r (λ like. IsTrue like → IsSameBy v loaded.start order)
    → IfOk r (λ like. IsTrue like → AreRenamed named loaded.names order) → IfOk r (λ alike. IsTrue alike → IsStartBy named v order text)
start_is named v text bytes order loaded (Ok like) same says ordered numbered renamed = λ is. record {
  opened = loaded;
  says = subst (λ b. SaysStart b loaded) same says;
  ordered = ordered is;
  state = numbered is;
  renamed = renamed is;
}
start_is named v text bytes order loaded (Err fault) same says ordered numbered renamed = tt
