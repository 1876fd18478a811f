use Rattle.mls_scripts.proofs.Pieces.{answered_then_kept}
use Rattle.mls_scripts.proofs.served.Served.reply_and_keep.Goals as goal

pub returns-clause-answered : goal.returns-clause-answered
returns-clause-answered g c =
    answered_then_kept _ _ _ _ _ _ _ c.keep.result c.in_ok-left.ensures.answered c.keep.ensures.err
