-- When a text is a start file of a state, up to numbers of objects.
use Rattle.std.specs.Prelude.{ℕ, List}
use Rattle.mls_lines.specs.Names.{Names}
use Rattle.mls_state.specs.State.{State}
use Rattle.mls_start_file.specs.Says.{SaysStart}
use Rattle.mls_start_file.specs.Ties.{Loaded}
use Rattle.mls_snapshots.specs.Orders.{IsOrder}
use Rattle.mls_snapshots.specs.Renaming.{AreRenamed}
use Rattle.mls_snapshots.specs.Renumbering.{IsSameBy}

-- A text says a start and names that are a state and names, but that the objects are numbered by their places in an
-- order of the active ones. (own)
pub record IsStartBy (names : Names) (v : State) (order text : List ℕ) : Type 0 where
  pub opened : Loaded
  pub says : SaysStart text opened
  pub ordered : IsOrder v order
  pub state : IsSameBy v opened.start order
  pub renamed : AreRenamed names opened.names order
