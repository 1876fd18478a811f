use Rattle.std.proofs.Common.{◌≡◌, take, Some}
use Rattle.mls_start_text.specs.Each.{each_of}
use Rattle.mls_c.specs.Batches.{pair_number}
use Rattle.mls_c.proofs.batch.put_in.Given as goal

-- the replies so far stand at the front
abbrev pub invariant-loop-k : goal.invariant-loop-k
invariant-loop-k l = each_of (pair_number l.standing l.subject l.mode) (take l.k l.pairs) ≡ Some (take l.k l.replies)
