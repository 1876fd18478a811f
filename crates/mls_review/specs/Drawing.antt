-- How the labels of a state and their order are drawn as DOT.
use Rattle.std.specs.Prelude.{ℕ, Bool, false, ◌-◌, ◌==◌, Option, Some, None, List, [], ◌∷◌, ◌++◌, length, take}
use Rattle.std.specs.Prelude.{codes, if◌then◌else◌}
use Rattle.std.specs.Fmt.{decimal}
use Rattle.std.specs.FinMap as map
use Rattle.std.specs.List.{flat_map}
use Rattle.mls_labels.specs.Label.{Label}
use Rattle.mls_labels.specs.Same.{same_label}
use Rattle.mls_tables.specs.declared.limits.TheConstants.{MAX_SUBJECTS, MAX_OBJECTS}
use Rattle.mls_state.specs.State.{State}
use Rattle.mls_lines.specs.Names.{Names}
use Rattle.mls_wording.specs.Wording.{subject_text, object_text, security_text}
use Rattle.mls_review.specs.Covers.{label_at, covering}
use Rattle.mls_review.specs.Distinct.{below, distinct}
use Rattle.mls_review.specs.declared.cover.Cover.{Cover}
use Rattle.mls_review.specs.declared.holder.Holder.{Holder}
use Rattle.mls_review.specs.declared.holder.Holder.TheVariants.{Maximum, Current, Both, Object}
use Rattle.mls_review.specs.declared.drawing.TheConstants.{SHOWN}

-- Whether a label that may lack is this one. (own)
abbrev pub is_at : Option Label → Label → Bool
is_at None l = false
is_at (Some m) l = same_label m l

-- What a subject has a label as, by whether it is its maximum and its current one. (own)
abbrev pub holder_of : ℕ → Bool → Bool → List Holder
holder_of s maximum current =
    if maximum then (if current then Both s ∷ [] else Maximum s ∷ []) else (if current then Current s ∷ [] else [])

-- What a subject has a label as. (own)
abbrev pub subject_holders : State → Label → ℕ → List Holder
subject_holders v l s = holder_of s (is_at (map.get v.maximum s) l) (is_at (map.get v.current s) l)

-- An object, where it has this label. (own)
abbrev pub object_holders : State → Label → ℕ → List Holder
object_holders v l o = if is_at (map.get v.object_label o) l then Object o ∷ [] else []

-- Who and what has a label: subjects, by number, and then objects, by number. (own)
abbrev pub holders : State → Label → List Holder
holders v l =
    flat_map (subject_holders v l) (below MAX_SUBJECTS)
    ++ flat_map (object_holders v l) (below MAX_OBJECTS)

-- The name of one that has a label. (own)
abbrev pub holder_name : Names → Holder → List ℕ
holder_name names (Maximum s) = subject_text names s
holder_name names (Current s) = subject_text names s
holder_name names (Both s) = subject_text names s
holder_name names (Object o) = object_text names o

-- What is said of a subject that has a label: as what it has it. (own)
abbrev pub holder_word : Holder → List ℕ
holder_word (Maximum s) = codes " maximum"
holder_word (Current s) = codes " current"
holder_word (Both s) = codes " maximum, current"
holder_word (Object o) = []

-- What is written of one that has a label. (own)
abbrev pub holder_text : Names → Holder → List ℕ
holder_text names h = holder_name names h ++ holder_word h

-- That, after a backslash and an n. (own)
abbrev pub holder_line : Names → Holder → List ℕ
holder_line names h = codes "\\n" ++ holder_text names h

-- What is written of so many more. (own)
abbrev pub more_text : ℕ → List ℕ
more_text n = if n == 0 then [] else codes "\\nand " ++ decimal n ++ codes " more"

-- What is written of all that have a label: of the first of them, and how many more there are. (own)
abbrev pub holders_text : Names → List Holder → List ℕ
holders_text names all = flat_map (holder_line names) (take SHOWN all) ++ more_text (length all - SHOWN)

-- The line of a label: a node, in which the label and all that have it stand below each other. (own)
abbrev pub node_text : Names → State → Label → List ℕ
node_text names v l =
    34 ∷ security_text names l ++ 34 ∷ codes " [label=" ++ 34 ∷ security_text names l
    ++ holders_text names (holders v l) ++ 34 ∷ codes "];\n"

-- The line of a covering pair: an edge from the lower label to the upper. (own)
abbrev pub edge_text : Names → List Label → Cover → List ℕ
edge_text names labels c =
    34 ∷ security_text names (label_at labels c.lower) ++ 34 ∷ codes " -> "
    ++ 34 ∷ security_text names (label_at labels c.upper) ++ 34 ∷ codes ";\n"

-- The drawing of a state's labels: its nodes and its edges. (own)
abbrev pub drawing : Names → State → List ℕ
drawing names v =
    codes "digraph lattice {\nrankdir=BT;\nnode [shape=box];\n"
    ++ flat_map (node_text names v) (distinct v)
    ++ flat_map (edge_text names (distinct v)) (covering (distinct v))
    ++ codes "}\n"
