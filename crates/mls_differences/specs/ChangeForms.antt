-- The lines and the members of what two starts both have, but otherwise.
use Rattle.std.specs.Prelude.{ℕ, Bool, Option, Some, None, List, [], ◌∷◌, ◌++◌, codes, map, if◌then◌else◌}
use Rattle.json.specs.Token.{Token, string}
use Rattle.mls_labels.specs.Label.{Label}
use Rattle.mls_labels.specs.LabelText.{name_at}
use Rattle.mls_lines.specs.Names.{Names}
use Rattle.mls_rows.specs.Members.{list_member, null_member, text_member, two_members}
use Rattle.mls_rows.specs.Rows.{row_bytes}
use Rattle.mls_rows.specs.declared.form.Form.{Form}
use Rattle.mls_tree.specs.declared.profile.Profile.{Profile}
use Rattle.mls_tree.specs.declared.profile.Profile.TheVariants.{One, Two}
use Rattle.mls_wording.specs.Wording.{security_text, integrity_text}
use Rattle.mls_differences.specs.Changes.{parent_text}
use Rattle.mls_differences.specs.Sides.{area_word, common, common_text, levels_of}
use Rattle.mls_differences.specs.Things.{both_text, both_texts, difference_member, part_text, thing_member}
use Rattle.mls_differences.specs.Things.{truth_members}
use Rattle.mls_differences.specs.declared.change.Change.{Change}
use Rattle.mls_differences.specs.declared.change.Change.TheVariants as change
use Rattle.mls_differences.specs.declared.thing.Thing.{Thing}
use Rattle.mls_differences.specs.declared.thing.Thing.TheVariants.{Subject, Object}

-- The word for what two starts have otherwise. (own)
abbrev pub change_word : Change → List ℕ
change_word (change.Profile p q) = codes "profile"
change_word (change.Levels of) = codes "levels"
change_word (change.Maximum s l m) = codes "maximum"
change_word (change.Current s l m) = codes "current"
change_word (change.Own s i j) = codes "integrity"
change_word (change.Trusted s here there) = codes "trusted"
change_word (change.Parent o p q) = codes "parent"
change_word (change.Placed o q) = codes "parent"
change_word (change.Freed o p) = codes "parent"
change_word (change.Security o l m) = codes "security"
change_word (change.Integrity o i j) = codes "integrity"

-- What is written of a profile: its number. (own)
abbrev pub profile_text : Profile → List ℕ
profile_text One = codes "1"
profile_text Two = codes "2"

-- The number of a profile. (own)
abbrev pub profile_number : Profile → ℕ
profile_number One = 1
profile_number Two = 2

-- The line of two orders of levels, which begin with a space. (own)
abbrev pub orders_line : List ℕ → List ℕ → List ℕ → List ℕ
orders_line kind here there = kind ++ codes " levels:" ++ here ++ codes " >" ++ there ++ 10 ∷ []

-- The line of the levels that two lists share, by the order in each. (own)
abbrev pub order_line : List ℕ → List (List ℕ) → List (List ℕ) → List ℕ
order_line kind levels others = orders_line kind (common_text levels others) (common_text others levels)

-- The word for whether something is so. (own)
abbrev pub yes_or_no : Bool → List ℕ
yes_or_no so = if so then codes "yes" else codes "no"

-- The line of two security labels of a subject or an object. (own)
abbrev pub securities_line : Names → Names → Thing → List ℕ → Label → Label → List ℕ
securities_line a b thing part l m = part_text a thing part ++ both_text (security_text a l) (security_text b m)

-- The line of two integrity labels of a subject or an object. (own)
abbrev pub integrities_line : Names → Names → Thing → Label → Label → List ℕ
integrities_line a b thing i j =
    part_text a thing (codes "integrity") ++ both_text (integrity_text a i) (integrity_text b j)

-- The line of two parents of an object, one of which may lack. (own)
abbrev pub parents_line : Names → Names → ℕ → Option ℕ → Option ℕ → List ℕ
parents_line a b o here there =
    part_text a (Object o) (codes "parent") ++ both_text (parent_text a here) (parent_text b there)

-- The line of a row, by the names of both starts. (own)
abbrev pub change_line : Names → Names → Change → List ℕ
change_line a b (change.Profile p q) = codes "profile: " ++ both_text (profile_text p) (profile_text q)
change_line a b (change.Levels of) = order_line (area_word of) (levels_of a of) (levels_of b of)
change_line a b (change.Maximum s l m) = securities_line a b (Subject s) (codes "maximum") l m
change_line a b (change.Current s l m) = securities_line a b (Subject s) (codes "current") l m
change_line a b (change.Own s i j) = integrities_line a b (Subject s) i j
change_line a b (change.Trusted s here there) =
    part_text a (Subject s) (codes "trusted") ++ both_text (yes_or_no here) (yes_or_no there)
change_line a b (change.Parent o p q) = parents_line a b o (Some p) (Some q)
change_line a b (change.Placed o q) = parents_line a b o None (Some q)
change_line a b (change.Freed o p) = parents_line a b o (Some p) None
change_line a b (change.Security o l m) = securities_line a b (Object o) (codes "security") l m
change_line a b (change.Integrity o i j) = integrities_line a b (Object o) i j

-- The list of the names that are among others. (own)
abbrev pub common_member : List ℕ → List (List ℕ) → List (List ℕ) → List Token
common_member at names others = list_member at (map string (common names others))

-- The lists of the levels that two lists share, by the order in each. (own)
abbrev pub common_members : List ℕ → List ℕ → List (List ℕ) → List (List ℕ) → List Token
common_members at behind levels others = common_member at levels others ++ common_member behind others levels

-- The two orders of levels, and of which scheme. (own)
abbrev pub levels_members : List ℕ → List (List ℕ) → List (List ℕ) → List Token
levels_members kind levels others =
    text_member (codes "scheme") kind ++ common_members (codes "first") (codes "second") levels others

-- A parent, by its name; null where there is none. (own)
abbrev pub parent_member : List ℕ → Names → Option ℕ → List Token
parent_member at names None = null_member at
parent_member at names (Some p) = text_member at (name_at names.objects p)

-- The parents of an object in both starts. (own)
abbrev pub parent_members : List ℕ → List ℕ → Names → Names → Option ℕ → Option ℕ → List Token
parent_members at behind a b here there = parent_member at a here ++ parent_member behind b there

-- Two security labels of a subject or an object. (own)
abbrev pub securities_members : Names → Names → Thing → Label → Label → List Token
securities_members a b thing l m = thing_member a thing ++ both_texts (security_text a l) (security_text b m)

-- Two integrity labels of a subject or an object. (own)
abbrev pub integrities_members : Names → Names → Thing → Label → Label → List Token
integrities_members a b thing i j = thing_member a thing ++ both_texts (integrity_text a i) (integrity_text b j)

-- Two parents of an object, one of which may lack. (own)
abbrev pub parents_members : Names → Names → ℕ → Option ℕ → Option ℕ → List Token
parents_members a b o here there =
    thing_member a (Object o) ++ parent_members (codes "first") (codes "second") a b here there

-- The members of a row behind the word of what differs. (own)
abbrev pub sides_members : Names → Names → Change → List Token
sides_members a b (change.Profile p q) =
    two_members (codes "first") (codes "second") (profile_number p) (profile_number q)
sides_members a b (change.Levels of) = levels_members (area_word of) (levels_of a of) (levels_of b of)
sides_members a b (change.Maximum s l m) = securities_members a b (Subject s) l m
sides_members a b (change.Current s l m) = securities_members a b (Subject s) l m
sides_members a b (change.Own s i j) = integrities_members a b (Subject s) i j
sides_members a b (change.Trusted s here there) =
    thing_member a (Subject s) ++ truth_members (codes "first") (codes "second") here there
sides_members a b (change.Parent o p q) = parents_members a b o (Some p) (Some q)
sides_members a b (change.Placed o q) = parents_members a b o None (Some q)
sides_members a b (change.Freed o p) = parents_members a b o (Some p) None
sides_members a b (change.Security o l m) = securities_members a b (Object o) l m
sides_members a b (change.Integrity o i j) = integrities_members a b (Object o) i j

-- The members of a row, by the names of both starts. (own)
abbrev pub change_members : Names → Names → Change → List Token
change_members a b row = difference_member (change_word row) ++ sides_members a b row

-- A row in a form: its line, or its object in a line. (own)
abbrev pub change_bytes : Form → Names → Names → Change → List ℕ
change_bytes form a b row = row_bytes form (change_line a b row) (change_members a b row)
