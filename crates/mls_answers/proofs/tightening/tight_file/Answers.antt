use Rattle.mls_answers.proofs.Tight.{tight_tells}
use Rattle.mls_answers.proofs.tightening.tight_file.Goals as goal

pub returns-in-Ok-clause-ok : goal.returns-in-Ok-clause-ok
returns-in-Ok-clause-ok c =
    tight_tells c.args.replay.now c.args.states c.args.words.now c.in-Ok.state c.file_of.result c.in-Ok.ensures.ok c.file_of.ensures.ok
