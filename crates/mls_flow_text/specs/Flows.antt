-- Answers where content of an object could flow, in their forms.
use Rattle.std.specs.Prelude.{◌≡◌, ◌<◌, ℕ, Bool, true, false, is_some, List, [], ◌++◌, map, All, Option, Some, None}
use Rattle.mls_requests.specs.declared.request.Request.{Request}
use Rattle.mls_lines.specs.Names.{Names}
use Rattle.mls_state.specs.State.{State, is_active}
use Rattle.mls_futures.specs.Futures.{HasLabelsWithin}
use Rattle.mls_flows.specs.Arriving.{HasIntegrityWithin}
use Rattle.mls_flows.specs.Reaching.{CouldReach}
use Rattle.mls_flows.specs.declared.place.Place.{Place}
use Rattle.mls_flows.specs.declared.place.Place.TheVariants.{Object}
use Rattle.mls_paths.specs.Hands.{IsHand, has_room}
use Rattle.mls_paths.specs.Numbering.{place_of}
use Rattle.mls_paths.specs.Ways.{IsShortest}
use Rattle.mls_paths.specs.declared.numbering.TheConstants.{PLACES}
use Rattle.mls_paths.specs.declared.reached.Hop.{Hop}
use Rattle.mls_flow_ways.specs.Scripts.{CarriesContent}
use Rattle.mls_rows.specs.declared.form.Form.{Form}
use Rattle.mls_shared_rows.specs.Requests.{requests_bytes}
use Rattle.mls_flow_text.specs.Endings.{full_bytes, never_bytes}
use Rattle.mls_flow_text.specs.Routes.{way_or_never}
use Rattle.mls_flow_text.specs.Ways.{Way, any_row, places, ways_bytes}

-- A way from an object to a place is one: content could flow there, each hop is a hand by which it comes, and there are
-- no ways with fewer; or there is none, and content couldn't flow there. (own)
abbrev pub IsWay : State → (ℕ → Bool) → ℕ → Place → Option (List Hop) → Type 0
IsWay v acts from p (Some hops) =
    CouldReach v acts (has_room v) (Object from) p × IsShortest (IsHand v acts (has_room v)) (Object from) hops p
IsWay v acts from p None = CouldReach v acts (has_room v) (Object from) p → ⊥

-- The bytes of an answer and whether it is positive tell where content of an active object could flow: of each place,
-- by its number, whether it could, and by which way; each place to which it could has a number. (own)
pub record RowsOfActive (names : Names) (v : State) (acts : ℕ → Bool) (from : ℕ) (form : Form) (told : List ℕ)
    (positive : Bool) : Type 0 where
  pub ways : List Way
  pub all : map (λ w. w.0) ways ≡ places PLACES
  pub each : All (λ w. IsWay v acts from w.0 w.1) ways
  pub numbered : (p : Place) → CouldReach v acts (has_room v) (Object from) p
      → (n : ℕ) × (n < PLACES) × (place_of n ≡ p)
  pub bytes : told ≡ ways_bytes names form v from ways ++ full_bytes form v
  pub some : positive ≡ any_row ways

-- The same of an object that is active or isn't; one that isn't has no row. (own)
abbrev pub RowsWhether : Bool → Names → State → (ℕ → Bool) → ℕ → Form → List ℕ → Bool → Type 0
RowsWhether true names v acts from form told positive = RowsOfActive names v acts from form told positive
RowsWhether false names v acts from form told positive = (told ≡ []) × (positive ≡ false)

-- The bytes of an answer and whether it is positive tell where content of an object could flow. (own)
abbrev pub RowsOfFlows : Names → State → (ℕ → Bool) → ℕ → Form → List ℕ → Bool → Type 0
RowsOfFlows names v acts from form told positive =
    RowsWhether (is_active v from) names v acts from form told positive

-- Releases and requests carry content of an object to a place, where there is a way; that supposes that the labels are
-- within the bounds, as those of all states are to which journals lead. Where there is no way, there are none. (own)
abbrev pub DoesWay : State → (ℕ → Bool) → ℕ → Place → Option (List Hop) → List Request → List Request → Type 0
DoesWay v acts from to None releases requests = (releases ≡ []) × (requests ≡ [])
DoesWay v acts from to (Some hops) releases requests =
    HasLabelsWithin v → HasIntegrityWithin v → CarriesContent v acts (Object from) to releases requests

-- The bytes of an answer and whether it is positive tell whether content of an active object could flow to a place, by
-- which way, and which script carries it there. (own)
pub record RowsOfActiveTo (names : Names) (v : State) (acts : ℕ → Bool) (from : ℕ) (to : Place) (form : Form)
    (told : List ℕ) (positive : Bool) : Type 0 where
  pub way : Option (List Hop)
  pub right : IsWay v acts from to way
  pub releases : List Request
  pub requests : List Request
  pub does : DoesWay v acts from to way releases requests
  pub bytes : told ≡ way_or_never names form v from to way ++ requests_bytes names form releases
      ++ requests_bytes names form requests ++ full_bytes form v
  pub some : positive ≡ is_some way

-- The same of an object that is active or isn't; from one that isn't content never flows. (own)
abbrev pub RowsWhetherTo : Bool → Names → State → (ℕ → Bool) → ℕ → Place → Form → List ℕ → Bool → Type 0
RowsWhetherTo true names v acts from to form told positive = RowsOfActiveTo names v acts from to form told positive
RowsWhetherTo false names v acts from to form told positive = (told ≡ never_bytes form) × (positive ≡ false)

-- The bytes of an answer and whether it is positive tell whether content of an object could flow to a place. (own)
abbrev pub RowsOfFlowTo : Names → State → (ℕ → Bool) → ℕ → Place → Form → List ℕ → Bool → Type 0
RowsOfFlowTo names v acts from to form told positive =
    RowsWhetherTo (is_active v from) names v acts from to form told positive
