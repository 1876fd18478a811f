-- Who may get what of an object, and what is in the way of the others.
use Rattle.std.specs.Prelude.{◌≡◌, ℕ, ◌&&◌, List, [], ◌∷◌, map, filter}
use Rattle.std.specs.FinSet as set
use Rattle.std.specs.List.{flat_map, range_with_len}
use Rattle.mls_tables.specs.Mode.{ModeSet}
use Rattle.mls_tables.specs.declared.mode.Mode.{Mode}
use Rattle.mls_tables.specs.declared.mode.Mode.TheVariants.{Execute, Read, Append, Write}
use Rattle.mls_state.specs.State.{State}
use Rattle.mls_rules.specs.Rules.{reply}
use Rattle.mls_explain.specs.Remedy.{get_request}
use Rattle.mls_explain.specs.Ways.{IsWay}
use Rattle.mls_explain.specs.declared.prospect.Prospect.{Prospect}

-- The modes in which the matrix permits a subject an object, of those that are asked for, in their order. (own)
abbrev pub permitted_modes : State → ℕ → ModeSet → ℕ → List (ℕ × Mode)
permitted_modes v o asked s =
    map (λ x. (s, x))
    (filter (λ x. set.contains asked x && set.contains v.matrix (s, o, x))
    (Execute ∷ Read ∷ Append ∷ Write ∷ []))

-- The pairs of a subject, of so many, and a mode that the matrix permits on an object, in their order. (own)
abbrev pub permitted_pairs : State → ℕ → ModeSet → ℕ → List (ℕ × Mode)
permitted_pairs v o asked count = flat_map (permitted_modes v o asked) (range_with_len 0 count)

-- The subject and the mode of each prospect. (own)
abbrev pub pairs_of : List Prospect → List (ℕ × Mode)
pairs_of found = map (λ p. (p.subject, p.mode)) found

-- What is said of a subject and a mode is so: the reply to the get, and what it would take of the subject alone. (own)
pub record IsProspect (v : State) (o : ℕ) (p : Prospect) : Type 0 where
  pub reply : p.reply ≡ reply v (get_request p.subject o p.mode)
  pub way : IsWay v p.subject o p.mode p.way
