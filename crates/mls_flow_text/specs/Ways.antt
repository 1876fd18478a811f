-- The rows of the ways to places that were found.
use Rattle.std.specs.Prelude.{◌≡◌, ◌||◌, ℕ, Bool, List, ◌++◌, map, All, Option, Some, None}
use Rattle.std.specs.List.{flat_map, list_any, range_with_len}
use Rattle.mls_lines.specs.Names.{Names}
use Rattle.mls_state.specs.State.{State}
use Rattle.mls_flows.specs.declared.place.Place.{Place}
use Rattle.mls_paths.specs.Found.{IsThere}
use Rattle.mls_paths.specs.Numbering.{place_of}
use Rattle.mls_paths.specs.Ways.{IsWayTo}
use Rattle.mls_paths.specs.declared.reached.Hop.{Hop}
use Rattle.mls_paths.specs.declared.reached.Reached.{Reached}
use Rattle.mls_rows.specs.Rows.{bytes_of, form_of}
use Rattle.mls_rows.specs.declared.form.Form.{Form}
use Rattle.mls_flow_text.specs.Routes.{has_row, way_bytes}
use Rattle.mls_flow_text.specs.declared.visiting.Written.{Written}

-- A place, and a way there, where there is one. (own)
abbrev pub Way : Type 0
Way = Place × Option (List Hop)

-- It is so of the place among those that were found. (own)
abbrev pub IsFound : List Reached → Place → Option (List Hop) → Type 0
IsFound found p None = IsThere found p → ⊥
IsFound found p (Some hops) = IsWayTo found p hops

-- The places of so many numbers. (own)
abbrev pub places : ℕ → List Place
places count = map place_of (range_with_len 0 count)

-- The rows of ways from an object, in a form. (own)
abbrev pub ways_bytes : Names → Form → State → ℕ → List Way → List ℕ
ways_bytes names form v from ways = flat_map (λ w. way_bytes names form v from w.0 w.1) ways

-- Whether one of them has a row. (own)
abbrev pub any_row : List Way → Bool
any_row ways = list_any (λ w. has_row w.1) ways

-- The row of the way to a place was added, where it has one. (own)
pub record AddsPlace (names : Names) (v : State) (from : ℕ) (found : List Reached) (p : Place) (old new : Written)
    : Type 0 where
  pub way : Option (List Hop)
  pub right : IsFound found p way
  pub form : form_of new.output ≡ form_of old.output
  pub bytes : bytes_of new.output ≡ bytes_of old.output ++ way_bytes names (form_of old.output) v from p way
  pub any : new.any ≡ (old.any || has_row way)

-- The rows are those of the ways to the places of so many numbers. (own)
pub record AreFound (names : Names) (form : Form) (v : State) (from : ℕ) (found : List Reached) (count : ℕ)
    (written : Written) : Type 0 where
  pub ways : List Way
  pub all : map (λ w. w.0) ways ≡ places count
  pub each : All (λ w. IsFound found w.0 w.1) ways
  pub in_form : form_of written.output ≡ form
  pub bytes : bytes_of written.output ≡ ways_bytes names form v from ways
  pub any : written.any ≡ any_row ways
