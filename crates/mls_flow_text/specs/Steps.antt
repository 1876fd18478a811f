-- What is written of the hands of a way.
use Rattle.std.specs.Prelude.{ℕ, Bool, true, false, not, List, [], ◌∷◌, ◌++◌, codes}
use Rattle.std.specs.FinMap as map
use Rattle.json.specs.Token.{Token, boolean, key}
use Rattle.mls_tables.specs.declared.mode.Mode.{Mode}
use Rattle.mls_requests.specs.ModeWords.{mode_word}
use Rattle.mls_lines.specs.Names.{Names}
use Rattle.mls_state.specs.State.{State, is_above}
use Rattle.mls_flows.specs.declared.place.Place.{Place}
use Rattle.mls_flows.specs.declared.place.Place.TheVariants.{Subject, Object}
use Rattle.mls_paths.specs.declared.reached.Hand.{Hand}
use Rattle.mls_paths.specs.declared.reached.Hand.TheVariants.{By, Made}
use Rattle.mls_paths.specs.declared.reached.Hop.{Hop}
use Rattle.mls_rows.specs.Members.{mode_member, object_member, subject_member}
use Rattle.mls_wording.specs.Wording.{object_text, subject_text}
use Rattle.mls_flow_text.specs.declared.step.Step.{Step}

-- Whether an object's label doesn't dominate that of another one. (own)
abbrev pub is_falling : State → ℕ → ℕ → Bool
is_falling v before o = not (is_above (map.get v.object_label o) (map.get v.object_label before))

-- Whether a place is an object whose label doesn't dominate that of the object before. (own)
abbrev pub is_down : State → ℕ → Place → Bool
is_down v before (Subject s) = false
is_down v before (Object o) = is_falling v before o

-- The object before the place behind this one: this one, if it is an object, else the one before. (own)
abbrev pub behind : ℕ → Place → ℕ
behind before (Subject s) = before
behind before (Object o) = o

-- A hop as it is told, by the object before. (own)
abbrev pub step_of : State → ℕ → Hop → Step
step_of v before hop = record { hand = hop.hand; place = hop.place; down = is_down v before hop.place }

-- Hops as they are told, by the object before. (own)
abbrev pub steps_of : State → ℕ → List Hop → List Step
steps_of v before [] = []
steps_of v before (hop ∷ hops) = step_of v before hop ∷ steps_of v (behind before hop.place) hops

-- A place by its name. (own)
abbrev pub place_text : Names → Place → List ℕ
place_text names (Subject s) = subject_text names s
place_text names (Object o) = object_text names o

-- Its member. (own)
abbrev pub place_members : Names → Place → List Token
place_members names (Subject s) = subject_member (codes "subject") (codes "subject_name") names s
place_members names (Object o) = object_member (codes "object") (codes "object_name") names o

-- A place to which content comes by an access of a mode. (own)
abbrev pub mode_text : Names → Place → Mode → List ℕ
mode_text names p x = place_text names p ++ codes " (" ++ mode_word x ++ codes ")"

-- An object that is made below another one, and that a subject alters. (own)
abbrev pub new_text : Names → ℕ → List ℕ
new_text names parent = codes "a new object below " ++ object_text names parent ++ codes " (append)"

-- A place to which content comes through such an object. (own)
abbrev pub made_text : Names → Place → ℕ → List ℕ
made_text names p parent = new_text names parent ++ codes " > " ++ place_text names p ++ codes " (read)"

-- A place and how content comes to it. (own)
abbrev pub hand_text : Names → Place → Hand → List ℕ
hand_text names p (By x) = mode_text names p x
hand_text names p (Made maker parent) = made_text names p parent

-- That the place is an object to which content comes down. (own)
abbrev pub down_text : Bool → List ℕ
down_text true = codes ", down"
down_text false = []

-- What is written of a hand in a line. (own)
abbrev pub step_text : Names → Step → List ℕ
step_text names t = codes " > " ++ hand_text names t.place t.hand ++ down_text t.down

-- The member of the object above one that is made. (own)
abbrev pub parent_member : Names → ℕ → List Token
parent_member names parent = object_member (codes "parent") (codes "parent_name") names parent

-- The member of the subject that makes it. (own)
abbrev pub maker_member : Names → ℕ → List Token
maker_member names maker = subject_member (codes "maker") (codes "maker_name") names maker

-- The members of an object that is made. (own)
abbrev pub made_members : Names → ℕ → ℕ → List Token
made_members names maker parent = parent_member names parent ++ maker_member names maker

-- The members of how content comes to a place: the mode, or those of an object that is made. (own)
abbrev pub hand_members : Names → Hand → List Token
hand_members names (By x) = mode_member (codes "mode") x
hand_members names (Made maker parent) = made_members names maker parent

-- The member of a place that is an object to which content comes down. (own)
abbrev pub down_members : Bool → List Token
down_members true = key (codes "down") ∷ boolean true ∷ []
down_members false = []

-- The members of a hand. (own)
abbrev pub step_members : Names → Step → List Token
step_members names t = place_members names t.place ++ hand_members names t.hand ++ down_members t.down
