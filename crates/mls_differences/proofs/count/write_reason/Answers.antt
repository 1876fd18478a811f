use Rattle.std.proofs.Common.{subst}
use Rattle.std.specs.Prelude.{codes}
use Rattle.mls_rows.specs.Members.{Adds, text_member}
use Rattle.mls_differences.proofs.count.write_reason.Goals as goal

pub returns : goal.returns
returns c =
    subst (λ word. Adds c.write_text.result c.args.writer.now c.write_text.new.writer (text_member (codes "reason") word)) c.word.ensures
    c.write_text.ensures
