use Rattle.std.proofs.Common.{subst, ap, ◌∙◌}
use Rattle.std.specs.Prelude.{codes}
use Rattle.mls_rows.specs.Members.{Adds, text_member}
use Rattle.mls_requests.specs.ReplyWords.{reply_word}
use Rattle.mls_differences.proofs.replying.write_word.Goals as goal

pub returns : goal.returns
returns c =
    subst (λ word. Adds c.write_text.result c.args.writer.now c.write_text.new.writer (text_member (codes "reply") word)) (c.word.ensures ∙ ap reply_word c.of.ensures)
    c.write_text.ensures
