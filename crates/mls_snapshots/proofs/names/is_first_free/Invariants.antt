use Rattle.std.proofs.Common.{◌≡◌, ℕ, ◌<◌, ◌≤◌, true}
use Rattle.mls_snapshots.specs.Renaming.{is_taken, numbered}
use Rattle.mls_snapshots.proofs.names.is_first_free.Given as goal

-- the names of the numbers so far are taken
abbrev pub invariant-loop-m : goal.invariant-loop-m
invariant-loop-m l = (i : ℕ) → l.fn.o ≤ i → i < l.m → is_taken l.old.objects l.new.objects l.k (numbered i) ≡ true
