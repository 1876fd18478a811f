-- A start file that was read.
use Rattle.std.specs.Prelude.{ℕ, List, refl}
use Rattle.std.specs.Coded.{Coded, code_by, coded×, coded_ℕ, coded_list}
use Rattle.mls_start_file.specs.Ties.{Loaded, loaded_code}

-- The bytes of a start file, and the names and the start that it says. (own)
pub record Opened : Type 0 where
  pub file : List ℕ
  pub loaded : Loaded

-- The same as the pair of its parts. (own)
abbrev pub opened_code : Coded Opened
opened_code =
    code_by (List ℕ × Loaded) (coded× (coded_list coded_ℕ) loaded_code) (λ o. (o.file, o.loaded))
    (λ p. record { file = p.0; loaded = p.1 }) (λ _. refl)
