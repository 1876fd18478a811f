-- Lists, and how much room each has.
use Rattle.std.specs.Prelude.{ℕ, List, refl}
use Rattle.std.specs.Coded.{Coded, code_by, coded×, coded_list, coded_ℕ}

-- Lists, and how many items each has room for. (own)
pub record Rooms (X : Type 0) : Type 0 where
  pub lists : List (List X)
  pub rooms : List ℕ

-- They are stored as the pair of both. (own)
abbrev pub rooms_code : {X : Type 0} → Coded X → Coded (Rooms X)
rooms_code {X} c =
    code_by (List (List X) × List ℕ) (coded× (coded_list (coded_list c)) (coded_list coded_ℕ)) (λ r. (r.lists, r.rooms))
    (λ p. record { lists = p.0; rooms = p.1 }) (λ _. refl)
