-- Schemes of labels: the names of levels and categories, whose places are their numbers.
use Rattle.std.specs.Prelude.{◌≡◌, ℕ, not, ◌||◌, nat_eq, nat_lt, List, length, map, Option, None, Some, if◌then◌else◌}
use Rattle.std.specs.Prelude.{refl}
use Rattle.std.specs.List.{list_all}
use Rattle.std.proofs.Common.{Bor}
use Rattle.std.specs.Coded.{Coded, code_by, coded×, coded_ℕ, coded_list}
use Rattle.mls_labels.specs.Label.{Bounds}
use Rattle.mls_labels.specs.Names.{is_name, has_twice}
use Rattle.mls_labels.specs.declared.limits.TheConstants.{MAX_LEVELS, MAX_CATEGORIES}
use Rattle.mls_labels.specs.declared.scheme_fault.SchemeFault.{SchemeFault}
use Rattle.mls_labels.specs.declared.scheme_fault.SchemeFault.TheVariants as refused
use Rattle.mls_labels.specs.declared.scheme_fault.SchemeFault.TheVariants.{NoLevels, TooManyLevels, TooManyCategories}
use Rattle.mls_labels.specs.declared.scheme_fault.SchemeFault.TheVariants.{BadName, RepeatedName}
use Rattle.mls_labels.specs.declared.name_set_fault.NameSetFault.{NameSetFault}
use Rattle.mls_labels.specs.declared.name_set_fault.NameSetFault.TheVariants.{Repeated, Memory}

-- A scheme: the names of the levels and those of the categories, each in the order of their numbers from 0. (own)
pub record Scheme : Type 0 where
  pub levels : List (List ℕ)
  pub categories : List (List ℕ)

-- The scheme of these texts. (own)
abbrev pub named : List (Bor (List ℕ)) → List (Bor (List ℕ)) → Scheme
named levels categories =
    record { levels = map (λ name. name.now) levels; categories = map (λ name. name.now) categories }

-- How many levels and categories there are. (own)
abbrev pub bounds_of : Scheme → Bounds
bounds_of s = record { levels = length s.levels; categories = length s.categories }

-- The first fault of a scheme in the order of the faults, where it has one. (own)
abbrev pub scheme_fault : Scheme → Option SchemeFault
scheme_fault s =
    if nat_eq (length s.levels) 0 then Some NoLevels
    else if nat_lt MAX_LEVELS (length s.levels) then Some TooManyLevels
    else if nat_lt MAX_CATEGORIES (length s.categories) then Some TooManyCategories
    else if not (list_all is_name s.levels) || not (list_all is_name s.categories) then Some BadName
    else if has_twice s.levels || has_twice s.categories then Some RepeatedName
    else None

-- What a fault of a list of names is as a fault of a scheme. (own)
abbrev pub scheme_fault_of : NameSetFault → SchemeFault
scheme_fault_of Repeated = RepeatedName
scheme_fault_of Memory = refused.Memory

-- What is true of every scheme of the program: it has no fault. (own)
abbrev pub IsScheme : Scheme → Type 0
IsScheme s = scheme_fault s ≡ None

-- A scheme is stored as the pair of its lists. (own)
abbrev pub scheme_code : Coded Scheme
scheme_code =
    code_by (List (List ℕ) × List (List ℕ)) (coded× (coded_list (coded_list coded_ℕ)) (coded_list (coded_list coded_ℕ)))
    (λ s. (s.levels, s.categories)) (λ p. record { levels = p.0; categories = p.1 }) (λ _. refl)
