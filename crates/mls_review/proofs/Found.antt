-- What is found dead is dead, and its reason is the one that is found.
use Rattle.std.proofs.Common.{◌≡◌, ℕ, Bool, true, false, cond, Option, Some, None, is_some, List, [], ◌∷◌, ◌++◌, All, refl, sym, ap, subst}
use Rattle.std.specs.FinSet as set
use Rattle.std.specs.List.{flat_map}
use Rattle.std.proofs.lemmas.List.Elements.{All-nil, All-cons, All-append}
use Rattle.mls_tables.specs.declared.mode.Mode.{Mode}
use Rattle.mls_tables.specs.declared.mode.Mode.TheVariants.{Execute, Read, Append, Write}
use Rattle.mls_requests.specs.declared.reason.Reason.{Reason}
use Rattle.mls_state.specs.State.{State}
use Rattle.mls_state.specs.Properties.{HasTree}
use Rattle.mls_review.specs.Dead.{obstacle}
use Rattle.mls_review.specs.Findings.{subjects, objects, dead_for, dead_in, dead_at, dead_of, dead, IsTrueOf}
use Rattle.mls_review.specs.declared.dead.Dead.{Dead}
use Rattle.mls_review.proofs.Reach.{obstacle_dead, obstacle_first}

all_flat : {X Y : Type 0} (P : Y → Type 0) (f : X → List Y) (xs : List X) → ((x : X) → All P (f x)) → All P (flat_map f xs)
all_flat P f [] h = All-nil P
all_flat P f (x ∷ xs) h = All-append P (f x) (flat_map f xs) (h x) (all_flat P f xs h)

module _ (v : State) (tree : HasTree v) where
  in_mode : (s o : ℕ) (x : Mode) (b : Bool) (r : Option Reason) → set.contains v.matrix (s, o, x) ≡ b → obstacle v (s, o, x) ≡ r
      → All (IsTrueOf v) (cond b (dead_for s o x r) [])
  in_mode s o x false r h k = All-nil (IsTrueOf v)
  in_mode s o x true None h k = All-nil (IsTrueOf v)
  in_mode s o x true (Some reason) h k =
      All-cons (IsTrueOf v) (record { subject = s; object = o; mode = x; reason = reason }) []
      (record { permitted = h; dead = (obstacle_dead v s o x tree h).0 (ap (λ r. is_some r) k); reason = obstacle_first v s o x tree h reason k })
      (All-nil (IsTrueOf v))

  at_mode : (s o : ℕ) (x : Mode) → All (IsTrueOf v) (dead_in v s o x)
  at_mode s o x = in_mode s o x (set.contains v.matrix (s, o, x)) (obstacle v (s, o, x)) refl refl

  at_cell : (s o : ℕ) → All (IsTrueOf v) (dead_at v s o)
  at_cell s o =
      All-append (IsTrueOf v) ((dead_in v s o Execute ++ dead_in v s o Read) ++ dead_in v s o Append) (dead_in v s o Write)
      (All-append (IsTrueOf v) (dead_in v s o Execute ++ dead_in v s o Read) (dead_in v s o Append)
      (All-append (IsTrueOf v) (dead_in v s o Execute) (dead_in v s o Read) (at_mode s o Execute) (at_mode s o Read))
      (at_mode s o Append))
      (at_mode s o Write)

  pub all_true : (found : List Dead) → found ≡ dead v → All (IsTrueOf v) found
  all_true found is =
      subst (All (IsTrueOf v)) (sym is) (all_flat (IsTrueOf v) (dead_of v) (subjects v) (λ s. all_flat (IsTrueOf v) (dead_at v s) (objects v) (λ o. at_cell s o)))
