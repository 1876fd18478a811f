-- Grids of what could come about.
use Rattle.std.specs.Prelude.{◌≡◌, ℕ, Bool, IsTrue, List, All, map}
use Rattle.std.specs.List.{flat_map}
use Rattle.mls_tables.specs.declared.mode.Mode.TheVariants.{Execute, Read, Append, Write}
use Rattle.mls_state.specs.State.{State, is_subject, is_active}
use Rattle.mls_grid.specs.Prospects.{IsProspect}
use Rattle.mls_grid.specs.declared.cell.Cell.{Cell}
use Rattle.mls_grid.specs.declared.grid.Grid.{Grid}

-- The subject and the object of a cell. (own)
abbrev pub place_of : Cell → ℕ × ℕ
place_of c = (c.subject, c.object)

-- Those of each of some cells. (own)
abbrev pub places_of : List Cell → List (ℕ × ℕ)
places_of cells = map place_of cells

-- What a cell says of each mode is so. (own)
pub record IsCell (v : State) (acts : ℕ → Bool) (c : Cell) : Type 0 where
  pub execute : IsProspect v acts (c.subject, c.object, Execute) c.execute
  pub read : IsProspect v acts (c.subject, c.object, Read) c.read
  pub append : IsProspect v acts (c.subject, c.object, Append) c.append
  pub write : IsProspect v acts (c.subject, c.object, Write) c.write

-- Each of some subjects with an object. (own)
abbrev pub row_of : List ℕ → ℕ → List (ℕ × ℕ)
row_of subjects o = map (λ s. (s, o)) subjects

-- The same of some objects, in their order. (own)
abbrev pub rows_of : List ℕ → List ℕ → List (ℕ × ℕ)
rows_of objects subjects = flat_map (row_of subjects) objects

-- A grid has a cell of each of its objects with each of its subjects, in their order, each of which is so; they are
-- active objects and known subjects. (own)
pub record IsGrid (v : State) (acts : ℕ → Bool) (grid : Grid) : Type 0 where
  pub objects : All (λ o. IsTrue (is_active v o)) grid.objects.items
  pub subjects : All (λ s. IsTrue (is_subject v s)) grid.subjects.items
  pub places : places_of grid.cells.items ≡ rows_of grid.objects.items grid.subjects.items
  pub each : All (IsCell v acts) grid.cells.items
