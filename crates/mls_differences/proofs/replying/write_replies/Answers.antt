use Rattle.mls_differences.proofs.replying.write_replies.Goals as goal

pub returns : goal.returns
returns c = c.write_two_replies.ensures
