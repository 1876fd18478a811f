use Rattle.std.proofs.Common.{subst}
use Rattle.std.specs.Prelude.{codes}
use Rattle.mls_rows.specs.Members.{Adds, text_member}
use Rattle.mls_answers.proofs.marks_row.write_to.Goals as goal

pub returns : goal.returns
returns c =
    subst (λ time. Adds c.write_ascii.result c.args.writer.now c.write_ascii.new.writer (text_member (codes "to") time)) c.text.ensures.text
    c.write_ascii.ensures
