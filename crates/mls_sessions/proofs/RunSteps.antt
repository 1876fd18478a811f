-- What the functions that run feeds need.
use Rattle.mls_sessions.proofs.Runs.{returned_ascending, grew, grew_none}
use Rattle.mls_sessions.proofs.Feeds.{all_fed, all_told, untold, untold_refused}

-- of feeds that were asked
pub ruleset run_of_feeds = (returned_ascending, grew, all_fed, all_told)

-- of feeds that were left alone
pub ruleset no_run = (grew_none, untold, untold_refused)
