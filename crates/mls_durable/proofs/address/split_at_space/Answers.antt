use Rattle.std.proofs.Common.{length, arith, sym}
use Rattle.std.proofs.lemmas.Bool.{eq-eqb, eqb-true}
use Rattle.std.proofs.lemmas.Slice.{between_to_end}
use Rattle.mls_durable.proofs.KeptLines.{no_space, split_none, first_space}
use Rattle.mls_durable.proofs.address.split_at_space.Goals as goal

pub returns-in_err-end : goal.returns-in_err-end
returns-in_err-end c = rw c.from_residual.ensures (sym (split_none c.args.line.now (no_space c.args.line.now (λ k h is. c.in_err-end.ensures k (omega arith) h (eq-eqb _ _ is)))))

pub returns : goal.returns
returns c =
    let found = c.in_ok-end.ensures in
    let back = c.split_at.result.1.now in
    sym (first_space c.args.line.now c.split_at.result.0.now back _ c.in_ok-end.end found.0.high (λ k h is. found.0.before k (omega arith) h (eq-eqb _ _ is)) (eqb-true _ _ found.1)
    c.split_at.ensures.front c.split_at.ensures.back (between_to_end back 1 (length back) (omega arith)))
