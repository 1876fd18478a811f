use Rattle.std.proofs.Common.{◌≡◌, take}
use Rattle.mls_differences.specs.Scoped.{wanted_gets}
use Rattle.mls_differences.proofs.scoped.wanted_gets.Given as goal

-- those so far that are asked for
abbrev pub invariant-loop-row : goal.invariant-loop-row
invariant-loop-row l = l.found.items ≡ wanted_gets l.broken (take l.row-index l.gets)
