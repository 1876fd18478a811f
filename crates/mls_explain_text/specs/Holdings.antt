-- What is written of accesses that a subject holds, as JSON.
use Rattle.std.specs.Prelude.{ℕ, List, [], ◌∷◌, ◌++◌, codes}
use Rattle.std.specs.List.{flat_map}
use Rattle.json.specs.Token.{Token}
use Rattle.mls_tables.specs.Triples.{Triple}
use Rattle.mls_lines.specs.Names.{Names}
use Rattle.mls_rows.specs.Members.{list_member, mode_member, object_member, object_of}

-- A member that is a list of objects; none where there are none. (own)
abbrev pub some_list : {R : Type 0} → List ℕ → (R → List Token) → List R → List Token
some_list at objects [] = []
some_list at objects (row ∷ rows) = list_member at (flat_map objects (row ∷ rows))

-- The object and the mode of an access. (own)
abbrev pub holding_object : Names → Triple → List Token
holding_object names t =
    object_of (object_member (codes "object") (codes "object_name") names t.1 ++ mode_member (codes "mode") t.2)
