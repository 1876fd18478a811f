-- How names go with the start that they are the names of.
use Rattle.std.specs.Prelude.{◌≡◌, ◌≤◌, ℕ, nat_lt, length, refl}
use Rattle.std.specs.Coded.{Coded, code_by, coded×}
use Rattle.mls_labels.specs.Label.{Bounds}
use Rattle.mls_labels.specs.Scheme.{bounds_of}
use Rattle.mls_lines.specs.Names.{Names, names_code}
use Rattle.mls_state.specs.State.{State, state_code, is_subject, is_active}
use Rattle.mls_tables.specs.declared.limits.TheConstants.{MAX_SUBJECTS, MAX_OBJECTS}

-- A state has subjects of the numbers below one count and objects of the numbers below another, and these bounds of its
-- security labels and of its integrity labels. (own)
pub record HasCounts (subjects objects : ℕ) (levels trusts : Bounds) (start : State) : Type 0 where
  pub known : (s : ℕ) → is_subject start s ≡ nat_lt s subjects
  pub active : (o : ℕ) → is_active start o ≡ nat_lt o objects
  pub next : start.next ≡ objects
  pub security : start.security ≡ levels
  pub integrity : start.integrity ≡ trusts

-- Names go with a start: it has as many subjects and objects as there are names of them, and labels within the bounds
-- of their schemes. So a name never stands for nothing. (own)
abbrev pub AreTied : Names → State → Type 0
AreTied names start =
    HasCounts (length names.subjects) (length names.objects) (bounds_of names.security)
    (bounds_of names.integrity) start

-- There are no more names than subjects and objects can have. (own)
pub record HasFewNames (names : Names) : Type 0 where
  pub subjects : length names.subjects ≤ MAX_SUBJECTS
  pub objects : length names.objects ≤ MAX_OBJECTS

-- A start, which is seen as the state that it opens with, and the names that its lines may use. (own)
pub record Loaded : Type 0 where
  pub names : Names
  pub start : State

-- How a start with names is stored: as the pair of its parts. (own)
abbrev pub loaded_code : Coded Loaded
loaded_code =
    code_by (Names × State) (coded× names_code state_code) (λ l. (l.names, l.start))
    (λ p. record { names = p.0; start = p.1 }) (λ _. refl)
