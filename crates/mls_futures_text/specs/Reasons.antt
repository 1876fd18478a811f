-- Why an access never comes about: each reason, in their order.
use Rattle.std.specs.Prelude.{◌≡◌, ◌↔◌, ℕ, Bool, true, false, not, ◌||◌, IsTrue, List, [], ◌++◌, option_to_list}
use Rattle.std.specs.Prelude.{Option, Some, None}
use Rattle.std.specs.FinMap as map
use Rattle.std.specs.FinSet as set
use Rattle.mls_tables.specs.Mode.{alters, uses}
use Rattle.mls_tables.specs.Triples.{Triple}
use Rattle.mls_tables.specs.declared.mode.Mode.{Mode}
use Rattle.mls_state.specs.State.{State, is_subject, is_active, is_above}
use Rattle.mls_state.specs.Properties.{is_known, simple_holds}
use Rattle.mls_explain.specs.Grounds.{label_at}
use Rattle.mls_futures.specs.Closure.{HasTrusted, CouldGive}
use Rattle.mls_futures_text.specs.declared.barrier.Why.{Why}
use Rattle.mls_futures_text.specs.declared.barrier.Why.TheVariants as why

-- A reason, where something isn't so. (own)
abbrev pub unless : Bool → Why → Option Why
unless true w = None
unless false w = Some w

-- That the subject doesn't act. (own)
abbrev pub actor_reason : (ℕ → Bool) → ℕ → Option Why
actor_reason acts s = unless (acts s) (why.Actor s)

-- That an access isn't permitted which nobody could permit, with the parent of its object. (own)
abbrev pub unpermitted : ℕ → ℕ → Mode → Option ℕ → Why
unpermitted s o x None = why.Root s x o
unpermitted s o x (Some p) = why.Permission s x o p

-- That the access isn't permitted, and no actor could give permissions of the object. (own)
abbrev pub permission_reason : State → Bool → Triple → Option Why
permission_reason v gives (s, o, x) =
    unless (set.contains v.matrix (s, o, x) || gives) (unpermitted s o x (map.get v.parent o))

-- That simple security doesn't hold of the access, and no trusted actor could lower labels. (own)
abbrev pub simple_reason : State → Bool → Triple → Option Why
simple_reason v trusted (s, o, x) =
    unless (trusted || simple_holds v (s, o, x)) (why.Simple (label_at v.maximum s) s (label_at v.object_label o) o)

-- That the mode uses an object whose integrity label doesn't dominate the subject's. (own)
abbrev pub using_reason : State → Triple → Option Why
using_reason v (s, o, x) =
    unless (not (uses x) || is_above (map.get v.object_integrity o) (map.get v.subject_integrity s))
    (why.Using (label_at v.object_integrity o) o (label_at v.subject_integrity s) s)

-- That the mode alters an object whose integrity label the subject's doesn't dominate. (own)
abbrev pub altering_reason : State → Triple → Option Why
altering_reason v (s, o, x) =
    unless (not (alters x) || is_above (map.get v.subject_integrity s) (map.get v.object_integrity o))
    (why.Altering (label_at v.subject_integrity s) s (label_at v.object_integrity o) o)

-- The reasons of an access to what is there, where it is known whether an actor is trusted, and whether one could give
-- permissions of the object. (own)
abbrev pub reasons_there : State → (ℕ → Bool) → Bool → Bool → Triple → List Why
reasons_there v acts trusted gives t =
    option_to_list (actor_reason acts t.0) ++ option_to_list (permission_reason v gives t)
    ++ option_to_list (simple_reason v trusted t) ++ option_to_list (using_reason v t)
    ++ option_to_list (altering_reason v t)

-- That there is no such subject, and that there is no such object. (own)
abbrev pub reasons_missing : State → ℕ → ℕ → List Why
reasons_missing v s o =
    option_to_list (unless (is_subject v s) (why.Unknown s)) ++ option_to_list (unless (is_active v o) (why.Inactive o))

-- Reasons are all that there are why an access to what is there never comes about. (own)
pub record AreReasonsThere (v : State) (acts : ℕ → Bool) (t : Triple) (found : List Why) : Type 0 where
  pub trusted : Bool
  pub is_trusted : IsTrue trusted ↔ HasTrusted v acts
  pub gives : Bool
  pub is_given : IsTrue gives ↔ CouldGive v acts t.1
  pub all : found ≡ reasons_there v acts trusted gives t

-- The same of an access whose subject and object are there or aren't. (own)
abbrev pub AreReasonsWhether : Bool → State → (ℕ → Bool) → Triple → List Why → Type 0
AreReasonsWhether true v acts t found = AreReasonsThere v acts t found
AreReasonsWhether false v acts t found = found ≡ reasons_missing v t.0 t.1

-- Reasons are all that there are why an access never comes about. (own)
abbrev pub AreReasons : State → (ℕ → Bool) → Triple → List Why → Type 0
AreReasons v acts t found = AreReasonsWhether (is_known v t) v acts t found
