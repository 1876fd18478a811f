use Rattle.std.proofs.Common.{ℕ, ◌<◌}
use Rattle.mls_tables.specs.declared.mode.Mode.TheVariants.{Write}
use Rattle.mls_futures.specs.Closure.{acts_in, Qualifies}
use Rattle.mls_ways.proofs.giver.any_writer.Given as goal

-- none of the subjects that were looked at
abbrev pub invariant-loop-n : goal.invariant-loop-n
invariant-loop-n l = (a : ℕ) → a < l.n → Qualifies l.state (acts_in l.actors) a l.o Write → ⊥
