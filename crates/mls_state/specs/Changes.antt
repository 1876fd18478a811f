-- States that differ from another by one change.
use Rattle.std.specs.Prelude.{ℕ, ◌+◌, max, Bool, not}
use Rattle.std.specs.FinSet as set
use Rattle.std.specs.FinMap as map
use Rattle.mls_labels.specs.Label.{Label}
use Rattle.mls_tree.specs.Tree.{is_inferior, next_number}
use Rattle.mls_state.specs.State.{State, is_active}

-- The state with another current label of a subject. (own, after MTR-2997's rules to change levels)
abbrev pub with_current : State → ℕ → Label → State
with_current v s l = record v { current = map.insert v.current s l }

-- The state with another security label of an object. (own, after MTR-2997's rules to change levels)
abbrev pub with_object_label : State → ℕ → Label → State
with_object_label v o l = record v { object_label = map.insert v.object_label o l }

-- The state with the next number set: in profile 1 to this one, in profile 2 to the least that isn't active. (own)
abbrev pub renumbered : State → ℕ → State
renumbered v given = record v { next = next_number v.profile given (is_active v) }

-- The state with one object more, which has the next number, these labels and this parent. (own, after MTR-2997's rule
-- to create an object)
abbrev pub with_object : State → ℕ → Label → Label → State
with_object v parent l i = renumbered (record v {
  object_label = map.insert v.object_label v.next l;
  object_integrity = map.insert v.object_integrity v.next i;
  parent = map.insert v.parent v.next parent;
}) (v.next + 1)

-- The state with an object of this number, which has these labels and this parent; in profile 1 the next number is
-- above it. (own)
abbrev pub with_object_at : State → ℕ → ℕ → Label → Label → State
with_object_at v o parent l i = renumbered (record v {
  object_label = map.insert v.object_label o l;
  object_integrity = map.insert v.object_integrity o i;
  parent = map.insert v.parent o parent;
}) (max v.next (o + 1))

-- Whether an object stays when one is deleted: it is no inferior of that one. (own, after MTR-2997's rule to delete an
-- object group)
abbrev pub stays : State → ℕ → ℕ → Bool
stays v o x = not (is_inferior v.parent x o)

-- The state with just those of its objects that pass the test, and just the triples that name such objects. (own)
abbrev pub with_objects : State → (ℕ → Bool) → State
with_objects v passes = record v {
  object_label = map.retain_keys v.object_label passes;
  object_integrity = map.retain_keys v.object_integrity passes;
  parent = map.retain_keys v.parent passes;
  matrix = set.retain v.matrix (λ t. passes t.1);
  accesses = set.retain v.accesses (λ t. passes t.1);
}

-- The state without an object and all below it. (own, after MTR-2997's rule to delete an object group)
abbrev pub without_group : State → ℕ → State
without_group v o = renumbered (with_objects v (stays v o)) v.next
