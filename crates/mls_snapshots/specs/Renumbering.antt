-- When a state is another one with its objects numbered anew.
use Rattle.std.specs.Prelude.{◌≡◌, ℕ, nat_lt, List, length, Some, slice_get}
use Rattle.std.specs.FinMap as map
use Rattle.std.specs.FinSet as set
use Rattle.mls_facts.specs.Numbered.{holds_of}
use Rattle.mls_state.specs.State.{State, is_active}
use Rattle.mls_tables.specs.Triples.{TripleSet}
use Rattle.mls_tables.specs.declared.mode.Mode.{Mode}
use Rattle.mls_snapshots.specs.Orders.{new_parent}

-- An object has the labels and the parent that it had under another number. (own)
pub record IsRenumbered (v w : State) (order : List ℕ) (k o : ℕ) : Type 0 where
  pub security : map.get w.object_label k ≡ map.get v.object_label o
  pub integrity : map.get w.object_integrity k ≡ map.get v.object_integrity o
  pub parent : map.get w.parent k ≡ new_parent order (map.get v.parent o)

-- A subject has the same labels in two states, and is trusted in both or in neither. (own)
pub record IsSameSubject (v w : State) (s : ℕ) : Type 0 where
  pub maximum : map.get w.maximum s ≡ map.get v.maximum s
  pub current : map.get w.current s ≡ map.get v.current s
  pub integrity : map.get w.subject_integrity s ≡ map.get v.subject_integrity s
  pub trusted : set.contains w.trusted s ≡ set.contains v.trusted s

-- Two states have the same subjects, with the same labels, and trust the same. (own)
pub record HasSameSubjects (v w : State) : Type 0 where
  pub maximum : w.maximum ≡ v.maximum
  pub current : w.current ≡ v.current
  pub integrity : w.subject_integrity ≡ v.subject_integrity
  pub trusted : w.trusted ≡ v.trusted

-- A table has just the triples of another, with its objects numbered anew. (own)
abbrev pub IsCarriedOver : TripleSet → TripleSet → List ℕ → Type 0
IsCarriedOver old new order = (s k : ℕ) (x : Mode)
    → set.contains new (s, k, x) ≡ holds_of (λ o. set.contains old (s, o, x)) (slice_get order k)

-- A state is another one with its objects numbered by their places in an order: profile, bounds, subjects, labels,
-- parents, matrix and accesses are those of the other, and the next number is how many objects there are. (own)
pub record IsSameBy (v w : State) (order : List ℕ) : Type 0 where
  pub profile : w.profile ≡ v.profile
  pub security : w.security ≡ v.security
  pub integrity : w.integrity ≡ v.integrity
  pub subjects : HasSameSubjects v w
  pub next : w.next ≡ length order
  pub active : (k : ℕ) → is_active w k ≡ nat_lt k (length order)
  pub objects : (k o : ℕ) → slice_get order k ≡ Some o → IsRenumbered v w order k o
  pub matrix : IsCarriedOver v.matrix w.matrix order
  pub accesses : IsCarriedOver v.accesses w.accesses order
