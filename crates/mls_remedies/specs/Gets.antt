-- The remedy of a get: the giving of its permission, then releases and a level of its subject.
use Rattle.std.specs.Prelude.{◌≡◌, ℕ, Bool, true, false, ◌&&◌, List, [], ◌∷◌, ◌++◌, map}
use Rattle.std.specs.FinMap as table
use Rattle.mls_tables.specs.Triples.{Triple}
use Rattle.mls_tables.specs.declared.mode.Mode.{Mode}
use Rattle.mls_requests.specs.declared.action.Action.TheVariants.{Get, Give, Release, SubjectLevel}
use Rattle.mls_state.specs.State.{State}
use Rattle.mls_state.specs.Properties.{simple_holds, integrity_holds}
use Rattle.mls_explain.specs.Ways.{IsWay, releases_for}
use Rattle.mls_explain.specs.declared.way.Way.{Way}
use Rattle.mls_explain.specs.declared.way.Way.TheVariants.{Level, Released, Never}
use Rattle.mls_remedies.specs.Others.{IsOthers, others_steps}
use Rattle.mls_remedies.specs.Steps.{may, own_step, taken}
use Rattle.mls_remedies.specs.declared.ending.Ending.{Ending}
use Rattle.mls_remedies.specs.declared.ending.Ending.TheVariants.{Asked, Instead, NoLevel, NoGiver, Nothing}
use Rattle.mls_remedies.specs.declared.others.Others.{Others}
use Rattle.mls_remedies.specs.declared.step.Step.{Step}

-- The release of an access by a subject. (MTR-2997, rule to release access)
abbrev pub release_step : ℕ → Triple → Step
release_step s t = own_step s (Release t.2 t.1)

-- The level of a way. (MTR-2997, rule to change a subject's current level)
abbrev pub level_steps : ℕ → Way → List Step
level_steps s (Level l) = own_step s (SubjectLevel l) ∷ []
level_steps s (Released l) = own_step s (SubjectLevel l) ∷ []
level_steps s Never = []

-- The steps of a way: the releases, and the level. (own)
abbrev pub way_steps : State → ℕ → Way → List Step
way_steps v s way = map (release_step s) (releases_for v s way) ++ level_steps s way

-- What they lead to. (own)
abbrev pub way_ending : Way → Ending
way_ending (Level l) = Asked
way_ending (Released l) = Asked
way_ending Never = NoLevel

-- The remedy of a get that the matrix permits is a way of its subject. (own)
pub record IsOwn (v : State) (s o : ℕ) (x : Mode) (steps : List Step) (ending : Ending) : Type 0 where
  pub way : Way
  pub is : IsWay v s o x way
  pub steps_are : steps ≡ way_steps v s way
  pub ending_is : ending ≡ way_ending way

-- What a get takes of its subject where it is granted, and where it isn't. (own)
abbrev pub IsBehind : Bool → State → ℕ → ℕ → Mode → List Step → Ending → Type 0
IsBehind true v s o x steps ending = (steps ≡ []) × (ending ≡ Asked)
IsBehind false v s o x steps ending = IsOwn v s o x steps ending

-- Steps, and others behind them where these help. (own)
abbrev pub joined : Ending → List Step → List Step → List Step
joined Asked giving rest = giving ++ rest
joined (Instead t) giving rest = []
joined NoLevel giving rest = []
joined (NoGiver x s o) giving rest = []
joined Nothing giving rest = []

-- The remedy of a get is a giving, and what it takes of its subject in the state after that. (own)
pub record IsJoined (w : State) (giving : List Step) (s o : ℕ) (x : Mode) (steps : List Step) (ending : Ending)
    : Type 0 where
  pub rest : List Step
  pub behind : IsBehind (may w (Get x o) s) w s o x rest ending
  pub steps_are : steps ≡ joined ending giving rest

-- The remedy of a get whose permission is given by these steps; by none nobody gives it. (own)
abbrev pub IsGivenBy : State → ℕ → ℕ → Mode → List Step → List Step → Ending → Type 0
IsGivenBy v s o x [] steps ending = (steps ≡ []) × (ending ≡ NoGiver x s o)
IsGivenBy v s o x (t ∷ ts) steps ending = IsJoined (taken v (t ∷ ts)) (t ∷ ts) s o x steps ending

-- The remedy of a get whose permission is to be given. (own)
pub record IsGiven (v : State) (s o : ℕ) (x : Mode) (steps : List Step) (ending : Ending) : Type 0 where
  pub givers : Others
  pub is : IsOthers v (Give x s o) (table.get v.parent o) givers
  pub by : IsGivenBy v s o x (others_steps (Give x s o) givers) steps ending

-- The remedy of a get that the matrix doesn't permit, where the conditions hold that neither a permission nor a label
-- of the subject changes, and where not. (own)
abbrev pub IsGivenWhere : Bool → State → ℕ → ℕ → Mode → List Step → Ending → Type 0
IsGivenWhere true v s o x steps ending = IsGiven v s o x steps ending
IsGivenWhere false v s o x steps ending = (steps ≡ []) × (ending ≡ NoLevel)

-- The remedy of a get that the matrix permits or doesn't. (own)
abbrev pub IsGetRemedy : Bool → State → ℕ → ℕ → Mode → List Step → Ending → Type 0
IsGetRemedy true v s o x steps ending = IsOwn v s o x steps ending
IsGetRemedy false v s o x steps ending =
    IsGivenWhere (simple_holds v (s, o, x) && integrity_holds v (s, o, x)) v s o x steps ending
