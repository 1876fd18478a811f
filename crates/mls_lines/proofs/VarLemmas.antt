-- What names are bound to, once one more was bound.
use Rattle.std.proofs.Common.{◌≡◌, ℕ, Bool, true, false, cond, if◌then◌else◌, List, [], ◌∷◌, map, Some, String, string_bytes, refl, ap, ◌∙◌, inl, inr}
use Rattle.std.proofs.lemmas.Bool.{cases_Bool}
use Rattle.std.proofs.lemmas.Slice.Eq.{bytes_eq-Decides}
use Rattle.std.specs.Map.{lookup}
use Rattle.std.specs.Str.{bytes_eq}
use Rattle.std.specs.String.{string_eq}
use Rattle.indexmap.specs.IndexMap.{insert_entry}
use Rattle.mls_lines.specs.Names.{bound_to}
use Rattle.mls_lines.specs.Vars.{with_binding, Binds}

-- what a variable is bound to, in bindings whose names are mapped
pub lookup-map : {X Y Z : Type 0} (f : X → Y) (test : Y → Bool) (es : List (X × Z)) → lookup test (map (λ p. (f p.0, p.1)) es) ≡ lookup (λ k. test (f k)) es
lookup-map f test [] = refl
lookup-map f test (e ∷ es) = ap (λ rest. cond (test (f e.0)) (Some e.1) rest) (lookup-map f test es)

-- a pair of a map, as contracts see it
abbrev pub pair_of : {Y : Type 0} → String Y × ℕ → List ℕ × ℕ
pair_of p = (string_bytes p.0, p.1)

-- the pairs of a map into which a name was inserted
pub pairs-insert_entry : {Y : Type 0} (es : List (String Y × ℕ)) (name : String Y) (object : ℕ)
    → map (λ p. (string_bytes p.0, p.1)) (insert_entry string_eq es name object) ≡ with_binding (map (λ p. (string_bytes p.0, p.1)) es) (string_bytes name) object
pairs-insert_entry [] name object = refl
pairs-insert_entry (e ∷ es) name object =
    elim (string_eq name e.0) as
    (λ b. map pair_of (if b then (e.0, object) ∷ es else e ∷ insert_entry string_eq es name object)
    ≡ (if b then (string_bytes e.0, object) ∷ map pair_of es else pair_of e ∷ with_binding (map pair_of es) (string_bytes name) object)) [
      | true ↦ refl
      | false ↦ ap (λ rest. pair_of e ∷ rest) (pairs-insert_entry es name object)
    ]

twice : {X : Type 0} (b : Bool) (x y z : X) → cond b x z ≡ cond b x (cond b y z)
twice true x y z = refl
twice false x y z = refl

apart : {X : Type 0} (a b : Bool) (x y z : X) → (b ≡ true → a ≡ false) → cond a x (cond b y z) ≡ cond b y (cond a x z)
apart true true x y z not_both = absurd (let no : true ≡ false = not_both refl in cc)
apart true false x y z not_both = refl
apart false true x y z not_both = refl
apart false false x y z not_both = refl

-- a name that was bound stands for its object, and every other for what it stood for
pub bound_to-with_binding : (bindings : List (List ℕ × ℕ)) (name : List ℕ) (object : ℕ) → Binds bindings name object (with_binding bindings name object)
bound_to-with_binding [] name object other = refl
bound_to-with_binding (b ∷ bindings) name object other =
    elim (cases_Bool (bytes_eq name b.0)) [
      | inl here ↦
          let same : name ≡ b.0 = (bytes_eq-Decides name b.0).0 here in
          rw (here, same) (twice (bytes_eq other b.0) (Some object) (Some b.1) (bound_to other bindings))
      | inr past ↦
          let not_both : bytes_eq other name ≡ true → bytes_eq other b.0 ≡ false =
          λ e. (let same : other ≡ name = (bytes_eq-Decides other name).0 e in rw same past) in
          rw past
          (ap (cond (bytes_eq other b.0) (Some b.1)) (bound_to-with_binding bindings name object other)
          ∙ apart (bytes_eq other b.0) (bytes_eq other name) (Some b.1) (Some object) (bound_to other bindings) not_both)
    ]

-- what a variable is bound to, by the map that keeps the pairs
pub bound_to-pairs : {Y : Type 0} (name : List ℕ) (es : List (String Y × ℕ)) → bound_to name (map (λ p. (string_bytes p.0, p.1)) es) ≡ lookup (λ k. bytes_eq name (string_bytes k)) es
bound_to-pairs name es = lookup-map string_bytes (bytes_eq name) es

-- what the functions on variables need
pub ruleset bindings = (bound_to-with_binding, bound_to-pairs, pairs-insert_entry)
