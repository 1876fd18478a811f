-- The variables of a script.
use Rattle.std.specs.Prelude.{◌≡◌, ℕ, List, [], ◌∷◌, Some, if◌then◌else◌, refl}
use Rattle.std.specs.Str.{bytes_eq}
use Rattle.std.specs.Coded.{Coded, code_by, coded×, coded_ℕ, coded_list}
use Rattle.mls_lines.specs.Names.{bound_to}

-- Bindings with one variable set: in place of what it was bound to, or else as the last. (own)
abbrev pub with_binding : List (List ℕ × ℕ) → List ℕ → ℕ → List (List ℕ × ℕ)
with_binding [] name object = (name, object) ∷ []
with_binding (b ∷ bindings) name object = if bytes_eq name b.0 then (b.0, object) ∷ bindings
    else b ∷ with_binding bindings name object

-- One variable was bound to an object: that name stands for it, and every other for what it stood for. (own)
abbrev pub Binds : List (List ℕ × ℕ) → List ℕ → ℕ → List (List ℕ × ℕ) → Type 0
Binds old name object new = (other : List ℕ)
    → bound_to other new ≡ (if bytes_eq other name then Some object else bound_to other old)

-- What variables are bound to, and how many more fit without an allocation. (own)
pub record Vars : Type 0 where
  pub bound : List (List ℕ × ℕ)
  pub room : ℕ

-- Variables are stored as the pair of their parts. (own)
abbrev pub vars_code : Coded Vars
vars_code =
    code_by (List (List ℕ × ℕ) × ℕ) (coded× (coded_list (coded× (coded_list coded_ℕ) coded_ℕ)) coded_ℕ)
    (λ b. (b.bound, b.room)) (λ p. record { bound = p.0; room = p.1 }) (λ _. refl)
