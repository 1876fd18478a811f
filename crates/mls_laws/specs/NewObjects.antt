-- What a creation makes.
use Rattle.std.specs.Prelude.{◌≡◌, ℕ, false, Some}
use Rattle.std.specs.FinMap as map
use Rattle.std.specs.FinSet as set
use Rattle.mls_labels.specs.Label.{Label}
use Rattle.mls_tables.specs.declared.mode.Mode.{Mode}
use Rattle.mls_requests.specs.declared.action.Action.TheVariants.{Create}
use Rattle.mls_requests.specs.declared.request.Request.{Request}
use Rattle.mls_state.specs.State.{State}

-- The request of a subject to create an object below another one, with these labels. (own)
abbrev pub creates : ℕ → ℕ → Label → Label → Request
creates s p l i = record { subject = s; action = Create p l i }

-- An object holds nothing but what it was made with: no permission and no access names it, it is no object's parent,
-- and its labels and its parent are these. (own)
pub record IsAnew (v : State) (o p : ℕ) (l i : Label) : Type 0 where
  pub permissions : (s : ℕ) (x : Mode) → set.contains v.matrix (s, o, x) ≡ false
  pub accesses : (s : ℕ) (x : Mode) → set.contains v.accesses (s, o, x) ≡ false
  pub children : (c : ℕ) → map.get v.parent c ≡ Some o → ⊥
  pub label : map.get v.object_label o ≡ Some l
  pub integrity : map.get v.object_integrity o ≡ Some i
  pub parent : map.get v.parent o ≡ Some p
