use Rattle.std.proofs.Common.{arith, ◌∙◌, sym}
use Rattle.mls_sessions.proofs.Bits.{set_bit, cleared_bit}
use Rattle.mls_sessions.proofs.cells.with_bit.Goals as goal

pub overflow_shl-result : goal.overflow_shl-result
overflow_shl-result c = let few = c.requires in omega arith

pub overflow_shl-result-else-is_set : goal.overflow_shl-result-else-is_set
overflow_shl-result-else-is_set c = let few = c.requires in omega arith

pub returns-then-is_set-clause-same : goal.returns-then-is_set-clause-same
returns-then-is_set-clause-same c = let few = c.requires in (set_bit c.args.word c.args.k (omega arith)).0 ∙ sym c.if-is_set.true

pub returns-then-is_set-clause-others : goal.returns-then-is_set-clause-others
returns-then-is_set-clause-others c = let few = c.requires in (set_bit c.args.word c.args.k (omega arith)).1

pub returns-else-is_set-clause-same : goal.returns-else-is_set-clause-same
returns-else-is_set-clause-same c = let few = c.requires in (cleared_bit c.args.word c.args.k (omega arith)).0 ∙ sym c.if-is_set.false

pub returns-else-is_set-clause-others : goal.returns-else-is_set-clause-others
returns-else-is_set-clause-others c = let few = c.requires in (cleared_bit c.args.word c.args.k (omega arith)).1
