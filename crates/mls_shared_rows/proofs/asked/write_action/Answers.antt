use Rattle.std.proofs.Common.{subst, ap, ◌∙◌}
use Rattle.std.specs.Prelude.{codes}
use Rattle.mls_rows.specs.Members.{Adds, text_member}
use Rattle.mls_requests.specs.ActionWords.{action_word}
use Rattle.mls_shared_rows.proofs.asked.write_action.Goals as goal

pub returns : goal.returns
returns c =
    subst (λ word. Adds c.write_text.result c.args.writer.now c.write_text.new.writer (text_member (codes "action") word)) (c.word.ensures ∙ ap action_word c.of.ensures)
    c.write_text.ensures
