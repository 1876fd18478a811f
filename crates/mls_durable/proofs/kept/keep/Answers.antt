use Rattle.std.proofs.Common.{rules, ◌∙◌}
use Rattle.mls_durable.proofs.KeptLines.{kept_of-extended}
use Rattle.mls_durable.proofs.kept.keep.Goals as goal

pub returns : goal.returns
returns c = record {
  ok = kept_of-extended c.args.line.now.items c.args.more.now _ c.kept_count-count.result c.len.result
      (rw c.if-is_err.ensures.negation at c.extend_from_slice.ensures.items) (c.len.ensures ∙ c.args.line.now.ok.0) (search rules) c.kept_count-count.ensures;
}
