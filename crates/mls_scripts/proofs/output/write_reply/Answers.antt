use Rattle.std.proofs.Common.{codes, ap, ◌∙◌}
use Rattle.std.specs.Fmt.{decimal}
use Rattle.mls_requests.specs.ReasonWords.{reason_word}
use Rattle.mls_scripts.proofs.Texts.{written_pair}
use Rattle.mls_scripts.proofs.output.write_reply.Goals as goal

pub returns-in-Created : goal.returns-in-Created
returns-in-Created g c =
    rw c.in-Created.is (written_pair _ _ _ _ (codes "created") (decimal c.in-Created.object) _ c.word-in-Created.ensures (c.format-number.ensures.text ∙ ap decimal c.number.ensures) c.write_pair.ensures)

pub returns-in-No : goal.returns-in-No
returns-in-No g c =
    rw c.in-No.is (written_pair _ _ _ _ (codes "no") (reason_word c.in-No.reason) _ c.word-in-No.ensures c.word-in-No-2.ensures c.write_pair-in-No.ensures)
