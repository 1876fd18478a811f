use Rattle.std.proofs.Common.{◌≡◌, length}
use Rattle.mls_lines.specs.Tokens.{tokens_of}
use Rattle.mls_lines.proofs.token.skip_spaces.Given as goal

abbrev pub invariant-loop-rest : goal.invariant-loop-rest
invariant-loop-rest l = tokens_of l.rest ≡ tokens_of l.fn.line

abbrev pub decreases-loop-rest : goal.decreases-loop-rest
decreases-loop-rest l = length l.rest
