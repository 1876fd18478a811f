-- What a start is made of, and the state that it opens with.
use Rattle.std.specs.Prelude.{◌≡◌, None}
use Rattle.std.specs.FinSet as set
use Rattle.mls_state.specs.Properties.{IsSecure}
use Rattle.mls_state.specs.State.{State}
use Rattle.mls_start.specs.Rows.{opening}
use Rattle.mls_start.specs.StartFaults.{start_fault}
use Rattle.mls_start.specs.declared.counts.Counts.{Counts}
use Rattle.mls_start.specs.declared.source.Source.{Source}
use Rattle.mls_start.specs.declared.source.Source.TheVariants as source

-- The state that a start opens with: that of its rows, or the one that it was given. (own)
abbrev pub opens_with : {A : Type 0} → Source A → State
opens_with (source.Rows rows) = opening rows
opens_with (source.State v) = v

-- Nothing is wrong with the rows of a start; the state that it was given is secure. (own)
abbrev pub IsFaultless : {A : Type 0} → Source A → Type 0
IsFaultless (source.Rows rows) = start_fault rows ≡ None
IsFaultless (source.State v) = IsSecure v

-- How many triples the two tables of a state have. (own)
pub record HasCounts (v : State) (counts : Counts) : Type 0 where
  pub cells : counts.cells ≡ set.len v.matrix
  pub accesses : counts.accesses ≡ set.len v.accesses
