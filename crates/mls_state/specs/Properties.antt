-- What makes a state secure: the seven properties, each a statement over the whole state.
use Rattle.std.specs.Prelude.{◌≡◌, ℕ, Bool, true, not, ◌&&◌, ◌||◌, IsTrue, Option, Some}
use Rattle.std.specs.FinSet as set
use Rattle.std.specs.FinMap as map
use Rattle.mls_labels.specs.Label.{Label}
use Rattle.mls_tables.specs.Mode.{observes, alters, uses}
use Rattle.mls_tables.specs.Triples.{Triple, TripleSet}
use Rattle.mls_tables.specs.declared.mode.Mode.{Mode}
use Rattle.mls_tables.specs.declared.mode.Mode.TheVariants.{Execute, Read, Append, Write}
use Rattle.mls_tree.specs.Tree.{IsTree, HasNext}
use Rattle.mls_state.specs.State.{State, is_subject, is_active, is_above, is_equal}

-- Each triple of the set passes the test. (own)
abbrev pub Each : TripleSet → (Triple → Bool) → Type 0
Each b passes = (t : Triple) → IsTrue (set.contains b t) → IsTrue (passes t)

-- Simple security between the maximum label of a subject and the label of an object: a mode that observes needs the
-- first to dominate the second. (MTR-2997, ss-property)
abbrev pub simple_between : Option Label → Option Label → Mode → Bool
simple_between maximum label x = not (observes x) || is_above maximum label

-- Simple security of one triple. (MTR-2997, ss-property)
abbrev pub simple_holds : State → Triple → Bool
simple_holds v (s, o, x) = simple_between (map.get v.maximum s) (map.get v.object_label o) x

-- Star between the current label of an untrusted subject and the label of an object: append only upwards, write only at
-- the label, read only downwards. (MTR-2997, *-property)
abbrev pub star_between : Option Label → Option Label → Mode → Bool
star_between current label Append = is_above label current
star_between current label Write = is_equal label current
star_between current label Read = is_above current label
star_between current label Execute = true

-- Star of one triple: it does not bind trusted subjects. (MTR-2997, *-property relative to the untrusted subjects)
abbrev pub star_holds : State → Triple → Bool
star_holds v (s, o, x) = set.contains v.trusted s || star_between (map.get v.current s) (map.get v.object_label o) x

-- Discretionary security of one triple: the matrix permits it. (MTR-2997, ds-property)
abbrev pub discretionary_holds : State → Triple → Bool
discretionary_holds v t = set.contains v.matrix t

-- Strict integrity between the integrity labels of a subject and of an object: what is used is at least as trustworthy
-- as the user, what is altered at most. (MTR-3153, strict integrity policy; that no subject is exempt is own)
abbrev pub integrity_between : Option Label → Option Label → Mode → Bool
integrity_between own label x = (not (uses x) || is_above label own) && (not (alters x) || is_above own label)

-- Strict integrity of one triple. (MTR-3153, strict integrity policy)
abbrev pub integrity_holds : State → Triple → Bool
integrity_holds v (s, o, x) = integrity_between (map.get v.subject_integrity s) (map.get v.object_integrity o) x

-- Compatibility of a child with its parent: the child's security label dominates the parent's, and the parent's
-- integrity label the child's. (MTR-2997, compatibility; the integrity half own)
abbrev pub compatible_holds : State → ℕ → ℕ → Bool
compatible_holds v child parent =
    is_above (map.get v.object_label child) (map.get v.object_label parent)
    && is_above (map.get v.object_integrity parent) (map.get v.object_integrity child)

-- A triple is known where it names a known subject and an active object. (own)
abbrev pub is_known : State → Triple → Bool
is_known v (s, o, x) = is_subject v s && is_active v o

-- Tree: the active objects are a tree below the root, the next number is that of the profile, and both sets of triples
-- name known subjects and active objects. (MTR-2997, hierarchy; the rest own)
pub record HasTree (v : State) : Type 0 where
  pub objects : IsTree v.parent (is_active v)
  pub next : HasNext v.profile (is_active v) v.next
  pub accesses_known : Each v.accesses (is_known v)
  pub matrix_known : Each v.matrix (is_known v)

-- The tables of a state agree: each label table has just the known subjects or the active objects, and only known
-- subjects are trusted. (own)
pub record HasWholeTables (v : State) : Type 0 where
  pub current : (s : ℕ) → map.contains_key v.current s ≡ is_subject v s
  pub subject_integrity : (s : ℕ) → map.contains_key v.subject_integrity s ≡ is_subject v s
  pub trusted : (s : ℕ) → IsTrue (set.contains v.trusted s) → IsTrue (is_subject v s)
  pub object_integrity : (o : ℕ) → map.contains_key v.object_integrity o ≡ is_active v o

-- A state is secure where all properties hold. (MTR-2997, secure state; joined with MTR-3153)
pub record IsSecure (v : State) : Type 0 where
  pub simple : Each v.accesses (simple_holds v)
  pub star : Each v.accesses (star_holds v)
  pub discretionary : Each v.accesses (discretionary_holds v)
  pub compatible : (child parent : ℕ) → map.get v.parent child ≡ Some parent → IsTrue (compatible_holds v child parent)
  pub tree : HasTree v
  pub integrity : Each v.accesses (integrity_holds v)
  -- ceiling: a subject's maximum label dominates its current label (MTR-2997, the two components of a subject's level)
  pub ceiling : (s : ℕ) → IsTrue (is_subject v s) → IsTrue (is_above (map.get v.maximum s) (map.get v.current s))
