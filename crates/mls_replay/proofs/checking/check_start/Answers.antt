use Rattle.mls_replay.proofs.Starts.{checks}
use Rattle.mls_replay.proofs.checking.check_start.Goals as goal

pub returns-clause-ok : goal.returns-clause-ok
returns-clause-ok c = checks _ _ c.in_ok-start.start c.in_ok-start.ensures.ok c.in_ok-text.ensures
