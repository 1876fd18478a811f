-- States on the way to the one that rows say.
use Rattle.std.specs.Prelude.{◌≡◌, ◌<◌, ◌≤◌, ℕ, IsTrue, List, Option, Some, None, slice_index_or}
use Rattle.std.specs.FinSet as set
use Rattle.mls_labels.specs.Scheme.{bounds_of}
use Rattle.mls_lines.specs.Names.{Names}
use Rattle.mls_state.specs.Properties.{HasTree, HasWholeTables}
use Rattle.mls_state.specs.State.{State, is_subject, is_active}
use Rattle.mls_state.specs.declared.subject.ObjectLabels.{ObjectLabels}
use Rattle.mls_tables.specs.declared.limits.TheConstants.{MAX_SUBJECTS}
use Rattle.mls_tree.specs.declared.profile.Profile.TheVariants.{One}
use Rattle.mls_snapshots.specs.declared.state_line.ObjectParts.{ObjectParts}
use Rattle.mls_snapshots.specs.Saying.{object_of}

-- A state can be that of a text with these names: its bounds are those of their schemes, it has subject 0 and no more
-- than there may be, its objects are a tree and its tables agree. (own)
pub record IsNamed (names : Names) (v : State) : Type 0 where
  pub security : v.security ≡ bounds_of names.security
  pub integrity : v.integrity ≡ bounds_of names.integrity
  pub first : IsTrue (is_subject v 0)
  pub few : (s : ℕ) → IsTrue (is_subject v s) → s < MAX_SUBJECTS
  pub tree : HasTree v
  pub whole : HasWholeTables v

-- Rows say the objects of a state that is one: by their numbers what it has of each. (own)
pub record AreObjectsOf (v : State) (objects : List (Option ObjectParts)) : Type 0 where
  pub tree : HasTree v
  pub whole : HasWholeTables v
  pub said : (o : ℕ) → slice_index_or objects o None ≡ object_of v o

-- The second state has the subjects, the profile and the bounds of the first, some of its objects with all above them,
-- and no triple. (own)
pub record IsPart (v u : State) : Type 0 where
  pub same : u ≡ record v {
    accesses = set.empty;
    matrix = set.empty;
    object_label = u.object_label;
    object_integrity = u.object_integrity;
    parent = u.parent;
    next = u.next;
  }
  pub root : IsTrue (is_active u 0)
  pub objects : (o : ℕ) → IsTrue (is_active u o) → object_of u o ≡ object_of v o
  pub next : v.profile ≡ One → u.next ≤ v.next

-- An object of a state has these labels and this parent. (own)
abbrev pub IsBelow : State → ℕ → ObjectLabels → ℕ → Type 0
IsBelow v o labels parent = object_of v o ≡ Some (record { labels = labels; parent = Some parent })
