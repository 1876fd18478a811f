-- What is written of ways.
use Rattle.std.specs.Prelude.{ℕ, Bool, true, false, List, [], ◌∷◌, ◌++◌, codes, Option, Some, None}
use Rattle.std.specs.List.{flat_map}
use Rattle.json.specs.Token.{Token}
use Rattle.mls_lines.specs.Names.{Names}
use Rattle.mls_state.specs.State.{State}
use Rattle.mls_flows.specs.declared.place.Place.{Place}
use Rattle.mls_flows.specs.declared.place.Place.TheVariants.{Subject, Object}
use Rattle.mls_paths.specs.declared.reached.Hop.{Hop}
use Rattle.mls_rows.specs.Members.{list_member, object_member, object_of}
use Rattle.mls_rows.specs.Rows.{row_bytes}
use Rattle.mls_rows.specs.declared.form.Form.{Form}
use Rattle.mls_wording.specs.Wording.{object_text}
use Rattle.mls_flow_text.specs.Endings.{never_bytes}
use Rattle.mls_flow_text.specs.Steps.{place_members, place_text, step_members, step_text, steps_of}
use Rattle.mls_flow_text.specs.declared.step.Step.{Step}

-- The word of what a place is. (own)
abbrev pub kind_word : Place → List ℕ
kind_word (Subject s) = codes "subject "
kind_word (Object o) = codes "object "

-- The beginning of the line of a way: the place, and the object from which content comes there. (own)
abbrev pub head_text : Names → Place → ℕ → List ℕ
head_text names p from = kind_word p ++ place_text names p ++ codes ": " ++ object_text names from

-- The line of a way: its hands stand behind that. (own)
abbrev pub route_line : Names → Place → ℕ → List Step → List ℕ
route_line names p from steps = head_text names p from ++ flat_map (step_text names) steps ++ codes "\n"

-- Its members. (own)
abbrev pub route_members : Names → Place → ℕ → List Step → List Token
route_members names p from steps =
    place_members names p ++ object_member (codes "from") (codes "from_name") names from
    ++ list_member (codes "hands") (flat_map (λ t. object_of (step_members names t)) steps)

-- The row of a way from an object to a place, in a form. (own)
abbrev pub route_bytes : Names → Form → State → ℕ → Place → List Hop → List ℕ
route_bytes names form v from p hops =
    row_bytes form (route_line names p from (steps_of v from hops)) (route_members names p from (steps_of v from hops))

-- The same, or that there is no way. (own)
abbrev pub way_or_never : Names → Form → State → ℕ → Place → Option (List Hop) → List ℕ
way_or_never names form v from p (Some hops) = route_bytes names form v from p hops
way_or_never names form v from p None = never_bytes form

-- The row of a way, where there is one and content isn't there without a hand. (own)
abbrev pub way_bytes : Names → Form → State → ℕ → Place → Option (List Hop) → List ℕ
way_bytes names form v from p None = []
way_bytes names form v from p (Some []) = []
way_bytes names form v from p (Some (hop ∷ hops)) = route_bytes names form v from p (hop ∷ hops)

-- Whether it has a row. (own)
abbrev pub has_row : Option (List Hop) → Bool
has_row None = false
has_row (Some []) = false
has_row (Some (hop ∷ hops)) = true
