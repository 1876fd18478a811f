use Rattle.std.proofs.Common.{ℕ, ◌<◌}
use Rattle.mls_tables.specs.declared.mode.Mode.TheVariants.{Write}
use Rattle.mls_futures.specs.Closure.{CouldGet}
use Rattle.mls_paths.specs.Hands.{acts_of}
use Rattle.mls_paths.proofs.taking.writer_of.Given as goal

-- none of the subjects that were looked at
abbrev pub invariant-loop-n : goal.invariant-loop-n
invariant-loop-n l = (s : ℕ) → s < l.n → CouldGet l.state (acts_of l.ground) s l.o Write → ⊥
