-- Steps of remedies: requests, each of one of up to three subjects.
use Rattle.std.specs.Prelude.{ℕ, Bool, true, ◌&&◌, List, [], ◌∷◌}
use Rattle.mls_requests.specs.declared.action.Action.{Action}
use Rattle.mls_requests.specs.declared.request.Request.{Request}
use Rattle.mls_state.specs.State.{State}
use Rattle.mls_rules.specs.Rules.{reply, after}
use Rattle.mls_explain.specs.Trusting.{grants}
use Rattle.mls_remedies.specs.declared.step.Step.{Step}
use Rattle.mls_remedies.specs.declared.who.Who.{Who}
use Rattle.mls_remedies.specs.declared.who.Who.TheVariants.{One, Two, Three}

-- The request of a subject. (own)
abbrev pub asks : ℕ → Action → Request
asks s a = record { subject = s; action = a }

-- Whether a subject is granted an action. (MTR-2997, decision yes)
abbrev pub may : State → Action → ℕ → Bool
may v a s = grants (reply v (asks s a))

-- The step of one subject. (own)
abbrev pub own_step : ℕ → Action → Step
own_step s a = record { who = One s; action = a }

-- The first of some subjects. (own)
abbrev pub leader : Who → ℕ
leader (One s) = s
leader (Two s t) = s
leader (Three s t u) = s

-- The request of the first subject of a step. (own)
abbrev pub asked_by : Step → Request
asked_by t = asks (leader t.who) t.action

-- Whether each of some subjects is granted an action. (MTR-2997, decision yes)
abbrev pub all_may : State → Action → Who → Bool
all_may v a (One s) = may v a s
all_may v a (Two s t) = may v a s && may v a t
all_may v a (Three s t u) = may v a s && (may v a t && may v a u)

-- Whether a step is granted, whoever of its subjects makes it. (MTR-2997, decision yes)
abbrev pub is_open : State → Step → Bool
is_open v t = all_may v t.action t.who

-- Whether each step is granted in the state that those before it lead to. (own)
abbrev pub are_open : State → List Step → Bool
are_open v [] = true
are_open v (t ∷ ts) = is_open v t && are_open (after v (asked_by t)) ts

-- The state after steps, one after the other. (own)
abbrev pub taken : State → List Step → State
taken v [] = v
taken v (t ∷ ts) = taken (after v (asked_by t)) ts
