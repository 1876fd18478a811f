use Rattle.std.proofs.Common.{◌≡◌, ◌++◌, length, drop, map}
use Rattle.std.specs.List.{range_with_len}
use Rattle.mls_c.specs.StateStart.{new_number}
use Rattle.mls_c.proofs.state_start.put_numbers.Given as goal

-- the numbers so far stand at the front
abbrev pub invariant-loop-o : goal.invariant-loop-o
invariant-loop-o l =
    (l.numbers ≡ map (new_number l.order) (range_with_len 0 l.o) ++ drop l.o l.initial.numbers) × (length l.numbers ≡ length l.initial.numbers)
