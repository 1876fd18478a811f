-- What a get would take of the subject alone: another current label, releases before it, or more than that.
use Rattle.std.specs.Prelude.{◌≡◌, ℕ, Bool, true, false, IsTrue, Option, Some, None, List, [], ◌∷◌, All, map}
use Rattle.std.specs.Prelude.{if◌then◌else◌}
use Rattle.std.specs.FinMap as table
use Rattle.mls_labels.specs.Label.{Label, dominates, has_label}
use Rattle.mls_tables.specs.Triples.{Triple}
use Rattle.mls_tables.specs.declared.mode.Mode.{Mode}
use Rattle.mls_tables.specs.declared.mode.Mode.TheVariants.{Execute, Read, Append, Write}
use Rattle.mls_requests.specs.declared.action.Action.{Action}
use Rattle.mls_requests.specs.declared.action.Action.TheVariants.{Get, Release, Give, Rescind, Create, Delete}
use Rattle.mls_requests.specs.declared.action.Action.TheVariants.{SubjectLevel, ObjectLevel}
use Rattle.mls_requests.specs.declared.request.Request.{Request}
use Rattle.mls_requests.specs.declared.reply.Reply.TheVariants.{Yes}
use Rattle.mls_state.specs.State.{State, is_subject, is_above}
use Rattle.mls_rules.specs.Rules.{reply, after}
use Rattle.mls_explain.specs.Demands.{failing_of_subject}
use Rattle.mls_explain.specs.Remedy.{get_request, HasCategories, HasRemedy, Helps, IsRemedy}
use Rattle.mls_explain.specs.declared.demand.Demand.TheVariants.{StarAtLevel}
use Rattle.mls_explain.specs.declared.way.Way.{Way}
use Rattle.mls_explain.specs.declared.way.Way.TheVariants.{Level, Released, Never}

-- The request of a subject to release an access to an object in a mode. (own)
abbrev pub release_request : ℕ → Triple → Request
release_request s t = record { subject = s; action = Release t.2 t.1 }

-- The state after requests, one after the other. (own)
unfoldable pub played : State → List Request → State
played v [] = v
played v (r ∷ rs) = played (after v r) rs

-- What a subject holds that the star property refuses at a current label, by object and mode. (MTR-2997, *-property)
abbrev pub refused_at : State → ℕ → Label → List Triple
refused_at v s l = failing_of_subject (StarAtLevel s l) v s

-- The state after a subject has released what the star property refuses at a current label. (own)
abbrev pub freed_for : State → ℕ → Label → State
freed_for v s l = played v (map (release_request s) (refused_at v s l))

-- A label is the greatest that two others dominate. (own)
pub record IsMeet (a b : Option Label) (l : Label) : Type 0 where
  pub first : IsTrue (is_above a (Some l))
  pub second : IsTrue (is_above b (Some l))
  pub greatest : (m : Label) → HasCategories m → IsTrue (is_above a (Some m)) → IsTrue (is_above b (Some m))
      → IsTrue (dominates l m)

-- The current label with which a subject of a maximum label gets an object of a label: that label; for an append the
-- greatest that both dominate. (MTR-2997, *-property)
abbrev pub IsOwnLevel : Option Label → Option Label → Mode → Label → Type 0
IsOwnLevel maximum label Execute l = IsMeet maximum label l
IsOwnLevel maximum label Read l = label ≡ Some l
IsOwnLevel maximum label Append l = IsMeet maximum label l
IsOwnLevel maximum label Write l = label ≡ Some l

-- No label helps a subject to a get alone; the object's does, once what the star property refuses at it is released.
-- (own)
pub record IsReleased (v : State) (s o : ℕ) (x : Mode) (l : Label) : Type 0 where
  pub alone : HasRemedy v s o x None
  pub level : IsOwnLevel (table.get v.maximum s) (table.get v.object_label o) x l
  pub helps : Helps (freed_for v s l) s o x l

-- What a subject has to release before it takes the label of a way: of one that takes releases what the star property
-- refuses there. (own)
abbrev pub releases_for : State → ℕ → Way → List Triple
releases_for v s (Level l) = []
releases_for v s (Released l) = if is_subject v s then refused_at v s l else []
releases_for v s Never = []

-- Whether an action changes only what its subject holds, to less, or the subject's current label. (own)
abbrev pub is_own_change : Action → Bool
is_own_change (Get x o) = false
is_own_change (Release x o) = true
is_own_change (Give x t o) = false
is_own_change (Rescind x t o) = false
is_own_change (Create p l i) = false
is_own_change (Delete o) = false
is_own_change (SubjectLevel l) = true
is_own_change (ObjectLevel o l) = false

-- A subject asks to release an access, or for a current label. (own)
pub record IsOwnChange (s : ℕ) (r : Request) : Type 0 where
  pub subject : r.subject ≡ s
  pub action : IsTrue (is_own_change r.action)

-- A subject's maximum label is within the bounds, as it is of each start. (own)
abbrev pub HasMaximumWithin : State → ℕ → Type 0
HasMaximumWithin v s = (m : Label) → table.get v.maximum s ≡ Some m → IsTrue (has_label v.security m)

-- After no releases and no labels of the subject, in whatever order and number, the get is granted. (own)
abbrev pub IsNever : State → ℕ → ℕ → Mode → Type 0
IsNever v s o x =
    HasMaximumWithin v s → (rs : List Request) → All (IsOwnChange s) rs
    → reply (played v rs) (get_request s o x) ≡ Yes → ⊥

-- What a get would take of the subject alone. (own)
abbrev pub IsWay : State → ℕ → ℕ → Mode → Way → Type 0
IsWay v s o x (Level l) = IsRemedy v s o x l
IsWay v s o x (Released l) = IsReleased v s o x l
IsWay v s o x Never = IsNever v s o x
