use Rattle.std.proofs.Common.{◌≡◌, ◌++◌, string_bytes}
use Rattle.mls_durable.specs.Greeting.{accesses_text}
use Rattle.mls_durable.proofs.greeting.push_accesses.Given as goal

-- the lines of the numbers so far
abbrev pub invariant-loop-s : goal.invariant-loop-s
invariant-loop-s l = string_bytes l.text ≡ string_bytes l.fn.text ++ accesses_text l.state.accesses l.first.accesses l.s
