-- What `mls powers` prints of what subjects may change.
use Rattle.std.specs.Prelude.{ℕ, List, [], ◌∷◌, ◌++◌, codes}
use Rattle.std.specs.List.{flat_map}
use Rattle.json.specs.Token.{Token, string}
use Rattle.mls_labels.specs.Label.{Label}
use Rattle.mls_lines.specs.Names.{Names}
use Rattle.mls_rows.specs.Members.{list_member, object_member, subject_member, text_member}
use Rattle.mls_rows.specs.Rows.{row_bytes}
use Rattle.mls_rows.specs.declared.form.Form.{Form}
use Rattle.mls_state.specs.State.{State}
use Rattle.mls_wording.specs.Wording.{subject_text, object_text, security_text}
use Rattle.mls_review.specs.Granted.{Granted, over, relabels}
use Rattle.mls_review.specs.Powers.{powers}
use Rattle.mls_review.specs.declared.authority.Asked.{Asked}
use Rattle.mls_review.specs.declared.power.Power.{Power}
use Rattle.mls_review.specs.declared.power.Power.TheVariants.{Gives, Creates, Deletes}
use Rattle.mls_review.specs.declared.relabeling.Relabeling.{Relabeling}
use Rattle.mls_review.specs.declared.relabeling.Relabeling.TheVariants.{Level, Down, Aside, Up}

-- The words for a power in a line, before what it is over. (own)
abbrev pub power_word : Power → List ℕ
power_word Gives = codes "gives and rescinds "
power_word Creates = codes "creates under "
power_word Deletes = codes "deletes "

-- What stands in a line between who may take or give labels and these. (own)
abbrev pub relabeling_front : Names → Relabeling → List ℕ
relabeling_front names Level = codes "level"
relabeling_front names (Down o) = codes "relabels " ++ object_text names o ++ codes " down to"
relabeling_front names (Aside o) = codes "relabels " ++ object_text names o ++ codes " aside to"
relabeling_front names (Up o) = codes "relabels " ++ object_text names o ++ codes " up to"

-- A label, after a space. (own)
abbrev pub one_more_label : Names → Label → List ℕ
one_more_label names l = 32 ∷ security_text names l

-- Who may change something. (own)
abbrev pub granted_to : Granted → ℕ
granted_to (over s power o) = s
granted_to (relabels s r labels) = s

-- What a subject may change. (own)
abbrev pub granted_text : Names → Granted → List ℕ
granted_text names (over s power o) = power_word power ++ object_text names o
granted_text names (relabels s r labels) = relabeling_front names r ++ flat_map (one_more_label names) labels

-- The line of what a subject may change. (own)
abbrev pub granted_line : Names → Granted → List ℕ
granted_line names g = subject_text names (granted_to g) ++ 32 ∷ granted_text names g ++ 10 ∷ []

-- The word for a power in JSON. (own)
abbrev pub power_name : Power → List ℕ
power_name Gives = codes "give"
power_name Creates = codes "create"
power_name Deletes = codes "delete"

-- What a power is over: an object, or the parent of those that are created. (own)
abbrev pub what_member : Names → Power → ℕ → List Token
what_member names Gives o = object_member (codes "object") (codes "object_name") names o
what_member names Creates o = object_member (codes "parent") (codes "parent_name") names o
what_member names Deletes o = object_member (codes "object") (codes "object_name") names o

-- The members of a power over an object. (own)
abbrev pub over_members : Names → ℕ → Power → ℕ → List Token
over_members names s power o =
    subject_member (codes "subject") (codes "subject_name") names s ++ text_member (codes "power") (power_name power)
    ++ what_member names power o

-- The object whose label is changed, and in which direction. (own)
abbrev pub directed_members : Names → ℕ → List ℕ → List Token
directed_members names o direction =
    text_member (codes "power") (codes "relabel") ++ object_member (codes "object") (codes "object_name") names o
    ++ text_member (codes "direction") direction

-- Whose label is changed: the subject's own, or an object's, in a direction. (own)
abbrev pub relabeling_members : Names → Relabeling → List Token
relabeling_members names Level = text_member (codes "power") (codes "level")
relabeling_members names (Down o) = directed_members names o (codes "down")
relabeling_members names (Aside o) = directed_members names o (codes "aside")
relabeling_members names (Up o) = directed_members names o (codes "up")

-- A label, as JSON. (own)
abbrev pub label_tokens : Names → Label → List Token
label_tokens names l = string (security_text names l) ∷ []

-- The list of labels. (own)
abbrev pub labels_member : Names → List Label → List Token
labels_member names labels = list_member (codes "labels") (flat_map (label_tokens names) labels)

-- The members of what a subject may change. (own)
abbrev pub granted_members : Names → Granted → List Token
granted_members names (over s power o) = over_members names s power o
granted_members names (relabels s r labels) =
    subject_member (codes "subject") (codes "subject_name") names s ++ relabeling_members names r
    ++ labels_member names labels

-- What a subject may change, in a form: its line, or its object in a line. (own)
abbrev pub granted_row : Form → Names → Granted → List ℕ
granted_row form names g = row_bytes form (granted_line names g) (granted_members names g)

-- What is printed in a form of what subjects may change. (own)
abbrev pub powers_bytes : Form → Names → State → Asked → List ℕ
powers_bytes form names v asked = flat_map (granted_row form names) (powers v asked)

-- The lines of what subjects may change. (own)
abbrev pub powers_text : Names → State → Asked → List ℕ
powers_text names v asked = flat_map (granted_line names) (powers v asked)
