-- What two starts both have, but otherwise: the profile, the order of levels, subjects and objects.
use Rattle.std.specs.Prelude.{ℕ, Bool, true, false, ◌&&◌, Option, Some, None, List, [], ◌∷◌, ◌++◌, codes, if◌then◌else◌}
use Rattle.std.specs.FinMap as map
use Rattle.std.specs.FinSet as set
use Rattle.std.specs.List.{flat_map}
use Rattle.std.specs.Str.{bytes_eq}
use Rattle.mls_labels.specs.Label.{Label}
use Rattle.mls_labels.specs.LabelText.{name_at}
use Rattle.mls_tree.specs.declared.profile.Profile.{Profile}
use Rattle.mls_tree.specs.declared.profile.Profile.TheVariants.{One, Two}
use Rattle.mls_state.specs.State.{State, is_subject, is_active}
use Rattle.mls_lines.specs.Names.{Names}
use Rattle.mls_differences.specs.Alike.{is_like}
use Rattle.mls_differences.specs.Sides.{common_text, levels_of, row_unless}
use Rattle.mls_differences.specs.declared.change.Change.{Change}
use Rattle.mls_differences.specs.declared.change.Change.TheVariants as change
use Rattle.mls_differences.specs.declared.shared.Shared.{Shared}
use Rattle.mls_differences.specs.declared.side.Area.{Area}
use Rattle.mls_differences.specs.declared.side.Area.TheVariants as area

-- Whether two profiles are the same. (own)
abbrev pub same_profile : Profile → Profile → Bool
same_profile One One = true
same_profile One Two = false
same_profile Two One = false
same_profile Two Two = true

-- The row of two profiles, where they aren't the same. (own)
abbrev pub profile_rows : Profile → Profile → List Change
profile_rows p q = row_unless (same_profile p q) (change.Profile p q)

-- Whether the levels that two lists share stand in the same order in both. (own)
abbrev pub same_order : List (List ℕ) → List (List ℕ) → Bool
same_order levels others = bytes_eq (common_text levels others) (common_text others levels)

-- The row of the levels that the schemes of two starts share, where these stand in another order in each. (own)
abbrev pub levels_rows : Names → Names → Area → List Change
levels_rows a b of = row_unless (same_order (levels_of a of) (levels_of b of)) (change.Levels of)

-- The rows of the profiles and of the levels of two starts. (own)
abbrev pub heads_rows : Names → Names → State → State → List Change
heads_rows a b v w =
    profile_rows v.profile w.profile ++ levels_rows a b area.Security ++ levels_rows a b area.Integrity

-- The row of a security label that two starts have of something, where the two aren't alike by name; nothing where a
-- start has none. (own)
abbrev pub security_rows : Names → Names → (Label → Label → Change) → Option Label → Option Label → List Change
security_rows a b row (Some l) (Some m) = row_unless (is_like a.security b.security l m) (row l m)
security_rows a b row (Some l) None = []
security_rows a b row None m = []

-- The row of an integrity label that two starts have of something, where the two aren't alike by name; nothing where a
-- start has none. (own)
abbrev pub integrity_rows : Names → Names → (Label → Label → Change) → Option Label → Option Label → List Change
integrity_rows a b row (Some i) (Some j) = row_unless (is_like a.integrity b.integrity i j) (row i j)
integrity_rows a b row (Some i) None = []
integrity_rows a b row None j = []

-- Whether something is so in both, or in neither. (own)
abbrev pub same_truth : Bool → Bool → Bool
same_truth true there = there
same_truth false true = false
same_truth false false = true

-- The row of whether a subject is trusted, where it is in one start alone. (own)
abbrev pub trusted_rows : ℕ → Bool → Bool → List Change
trusted_rows s here there = row_unless (same_truth here there) (change.Trusted s here there)

-- The rows of a subject of one state and a subject of another: labels, and whether it is trusted. (own)
abbrev pub subject_changes : Names → Names → State → State → ℕ → ℕ → List Change
subject_changes a b v w s t =
    security_rows a b (change.Maximum s) (map.get v.maximum s) (map.get w.maximum t)
    ++ security_rows a b (change.Current s) (map.get v.current s) (map.get w.current t)
    ++ integrity_rows a b (change.Own s) (map.get v.subject_integrity s) (map.get w.subject_integrity t)
    ++ trusted_rows s (set.contains v.trusted s) (set.contains w.trusted t)

-- The rows of a subject that two starts share, where it is known in both states. (own)
abbrev pub subject_rows : Names → Names → State → State → Shared → List Change
subject_rows a b v w s =
    if is_subject v s.first && is_subject w s.second then subject_changes a b v w s.first s.second else []

-- What is written of the parent of an object: its name, or that there is none. (own)
abbrev pub parent_text : Names → Option ℕ → List ℕ
parent_text names None = codes "(none)"
parent_text names (Some p) = name_at names.objects p

-- Whether two parents have the same name, or both are none. (own)
abbrev pub same_parent : Names → Names → Option ℕ → Option ℕ → Bool
same_parent a b here there = bytes_eq (parent_text a here) (parent_text b there)

-- The row of two parents of an object; nothing where both are none. (own)
abbrev pub moved_rows : ℕ → Option ℕ → Option ℕ → List Change
moved_rows o None None = []
moved_rows o None (Some q) = change.Placed o q ∷ []
moved_rows o (Some p) None = change.Freed o p ∷ []
moved_rows o (Some p) (Some q) = change.Parent o p q ∷ []

-- The row of the parents of an object in two starts, where they don't have the same name. (own)
abbrev pub parent_rows : Names → Names → ℕ → Option ℕ → Option ℕ → List Change
parent_rows a b o here there = if same_parent a b here there then [] else moved_rows o here there

-- The rows of an object of one state and an object of another: its parent, by name, and its labels. (own)
abbrev pub object_changes : Names → Names → State → State → ℕ → ℕ → List Change
object_changes a b v w o p =
    parent_rows a b o (map.get v.parent o) (map.get w.parent p)
    ++ security_rows a b (change.Security o) (map.get v.object_label o) (map.get w.object_label p)
    ++ integrity_rows a b (change.Integrity o) (map.get v.object_integrity o) (map.get w.object_integrity p)

-- The rows of an object that two starts share, where it is active in both states. (own)
abbrev pub object_rows : Names → Names → State → State → Shared → List Change
object_rows a b v w o =
    if is_active v o.first && is_active w o.second then object_changes a b v w o.first o.second else []

-- The rows of all that two starts both have otherwise: profiles and levels, subjects, objects. (own)
abbrev pub changes : Names → Names → State → State → List Shared → List Shared → List Change
changes a b v w subjects objects =
    heads_rows a b v w ++ flat_map (subject_rows a b v w) subjects ++ flat_map (object_rows a b v w) objects
