-- What a tree of `serde_json` has in a list and in an object, as contracts see it.
use Rattle.std.specs.Prelude.{◌≡◌, ◌==◌, List, [], ◌∷◌, length, map, refl, Some, string_bytes}
use Rattle.std.proofs.Common.{ap, ◌∙◌, arith, String}
use Rattle.std.proofs.lemmas.Bool.Decides.{nat_tests}
use Rattle.std.specs.declared.alloc.Global.{Global}
use Rattle.serde_json.specs.Data.{Data}
use Rattle.serde_json.specs.View.{items_of, items_view, members_view}
use Rattle.serde_json.specs.declared.value.Value.{Value}
use Rattle.mls_start_text.specs.Looking.{list_of}
use Rattle.mls_start_faults.specs.Members.{has_none}
use Rattle.mls_start_faults.specs.Rows.{keys_of}

-- the values of a list
pub listed : (ds : List Data) → list_of (items_of ds) ≡ ds
listed [] = refl
listed (d ∷ ds) = ap (λ rest. d ∷ rest) (listed ds)

-- a list has no items where its length is 0
pub none_listed : (vs : List Value) → (length vs == 0) ≡ has_none (Some (items_view vs))
none_listed [] = refl
none_listed (v ∷ vs) = grind (arith, nat_tests)

-- the keys of an object
pub keys_listed : (ms : List (String Global × Value)) → keys_of (members_view ms) ≡ map string_bytes (map (λ m. m.0) ms)
keys_listed [] = refl
keys_listed (m ∷ ms) = ap (λ rest. string_bytes m.0 ∷ rest) (keys_listed ms)

-- lists of the same items
pub same_cons : {A : Type 0} {a b : A} {xs ys : List A} → a ≡ b → xs ≡ ys → a ∷ xs ≡ b ∷ ys
same_cons {a = a} {ys = ys} first rest = ap (λ l. a ∷ l) rest ∙ ap (λ x. x ∷ ys) first
