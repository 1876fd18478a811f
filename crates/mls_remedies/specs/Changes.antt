-- The remedy of any other request: releases of what stands in its way, and then its authority.
use Rattle.std.specs.Prelude.{◌≡◌, ℕ, Bool, true, false, not, ◌&&◌, Option, Some, None, List, [], ◌∷◌, ◌++◌, map}
use Rattle.std.specs.Prelude.{if◌then◌else◌}
use Rattle.std.specs.FinSet as set
use Rattle.std.specs.List.{flat_map}
use Rattle.mls_labels.specs.Label.{Label}
use Rattle.mls_tables.specs.Held.{subjects_of}
use Rattle.mls_tables.specs.Triples.{Triple}
use Rattle.mls_tables.specs.declared.mode.Mode.{Mode}
use Rattle.mls_tables.specs.declared.mode.Mode.TheVariants.{Execute, Read, Append, Write}
use Rattle.mls_requests.specs.declared.action.Action.{Action}
use Rattle.mls_requests.specs.declared.action.Action.TheVariants.{Get, Release, Give, Rescind, Create, Delete}
use Rattle.mls_requests.specs.declared.action.Action.TheVariants.{SubjectLevel, ObjectLevel}
use Rattle.mls_state.specs.State.{State}
use Rattle.mls_explain.specs.Demands.{failing_of_subject, meets}
use Rattle.mls_explain.specs.declared.demand.Demand.TheVariants.{StarAtLevel, SimpleAtLabel, StarAtLabel}
use Rattle.mls_remedies.specs.Authority.{gate_of, own_get}
use Rattle.mls_remedies.specs.Gets.{release_step}
use Rattle.mls_remedies.specs.Others.{IsOthers}
use Rattle.mls_remedies.specs.Steps.{are_open, may, own_step, taken}
use Rattle.mls_remedies.specs.declared.ending.Ending.{Ending}
use Rattle.mls_remedies.specs.declared.ending.Ending.TheVariants.{Asked, Instead, Nothing}
use Rattle.mls_remedies.specs.declared.others.Others.{Others}
use Rattle.mls_remedies.specs.declared.others.Others.TheVariants.{Now, Later, Nobody}
use Rattle.mls_remedies.specs.declared.step.Step.{Step}

-- The release of an access by its subject. (MTR-2997, rule to release access)
abbrev pub holder_step : Triple → Step
holder_step t = release_step t.0 t

-- Whether an access meets simple security and star, with another label of an object. (MTR-2997, rules to change levels)
abbrev pub fits_label : State → ℕ → Label → Triple → Bool
fits_label v o l t = meets (SimpleAtLabel o l) v t && meets (StarAtLabel o l) v t

-- The release of an access of a subject to an object, where it is held and one of the two refuses it. (own)
abbrev pub holder_at : State → ℕ → Label → ℕ → Mode → List Step
holder_at v o l s x =
    if set.contains v.accesses (s, o, x) && not (fits_label v o l (s, o, x)) then holder_step (s, o, x) ∷ [] else []

-- The releases of what a subject holds of an object and one of the two refuses, in the order of modes. (own)
abbrev pub holder_steps : State → ℕ → Label → ℕ → List Step
holder_steps v o l s =
    holder_at v o l s Execute ++ holder_at v o l s Read ++ holder_at v o l s Append ++ holder_at v o l s Write

-- The releases of what stands in the way of an action: of a level what star refuses at it; of a relabelling what simple
-- security or star refuses at it, by whomever it is held. (own)
abbrev pub ways_free : State → ℕ → Action → List Step
ways_free v s (SubjectLevel l) = map (release_step s) (failing_of_subject (StarAtLevel s l) v s)
ways_free v s (ObjectLevel o l) = flat_map (holder_steps v o l) (subjects_of v.accesses o)
ways_free v s (Get x o) = []
ways_free v s (Release x o) = []
ways_free v s (Give x t o) = []
ways_free v s (Rescind x t o) = []
ways_free v s (Create p l i) = []
ways_free v s (Delete o) = []

-- Whether another subject may do it as well: all but a level, which is the subject's own. (own)
abbrev pub is_shared : Action → Bool
is_shared (SubjectLevel l) = false
is_shared (Get x o) = true
is_shared (Release x o) = true
is_shared (Give x t o) = true
is_shared (Rescind x t o) = true
is_shared (Create p l i) = true
is_shared (Delete o) = true
is_shared (ObjectLevel o l) = true

-- The remedy ends with the request of those who are granted the action, or would be; there is none where nobody is.
-- (own)
abbrev pub IsWithLast : Action → List Step → Others → List Step → Ending → Type 0
IsWithLast a ways (Now t) steps ending = (steps ≡ ways) × (ending ≡ Instead t)
IsWithLast a ways (Later s first) steps ending =
    (steps ≡ ways ++ own_step s first ∷ []) × (ending ≡ Instead (own_step s a))
IsWithLast a ways Nobody steps ending = (steps ≡ []) × (ending ≡ Nothing)

-- The remedy by others, where the action is one for others. (own)
abbrev pub IsByOthers : Bool → State → Action → Option ℕ → List Step → List Step → Ending → Type 0
IsByOthers true w a gate ways steps ending =
    (others : Others) × IsOthers w a gate others × IsWithLast a ways others steps ending
IsByOthers false w a gate ways steps ending = (steps ≡ []) × (ending ≡ Nothing)

-- The remedy by a get of the subject's own, or else by others. (own)
abbrev pub IsByOwn : Option Action → State → ℕ → Action → Option ℕ → List Step → List Step → Ending → Type 0
IsByOwn (Some first) w s a gate ways steps ending = (steps ≡ ways ++ own_step s first ∷ []) × (ending ≡ Asked)
IsByOwn None w s a gate ways steps ending = IsByOthers (is_shared a) w a gate ways steps ending

-- The remedy in the state after what stood in the way is released: no more where the action is granted there. (own)
abbrev pub IsFinished : Bool → State → ℕ → Action → Option ℕ → List Step → List Step → Ending → Type 0
IsFinished true w s a gate ways steps ending = (steps ≡ ways) × (ending ≡ Asked)
IsFinished false w s a gate ways steps ending = IsByOwn (own_get w s a gate) w s a gate ways steps ending

-- The remedy where what stands in the way can be released, and where not. (own)
abbrev pub IsFreed : Bool → State → ℕ → Action → Option ℕ → List Step → List Step → Ending → Type 0
IsFreed true w s a gate ways steps ending = IsFinished (may w a s) w s a gate ways steps ending
IsFreed false w s a gate ways steps ending = (steps ≡ []) × (ending ≡ Nothing)

-- The remedy of an action by releases of these. (own)
abbrev pub IsChangedBy : State → ℕ → Action → Option ℕ → List Step → List Step → Ending → Type 0
IsChangedBy v s a gate ways steps ending = IsFreed (are_open v ways) (taken v ways) s a gate ways steps ending

-- The remedy of an action that is no get. (own)
abbrev pub IsChangeRemedy : State → ℕ → Action → List Step → Ending → Type 0
IsChangeRemedy v s a steps ending = IsChangedBy v s a (gate_of v a) (ways_free v s a) steps ending
