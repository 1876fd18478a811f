-- What other rooms may know of lists of sessions.

-- a front of ascending sessions ascends, and the last is of the office; there are no more sessions than numbers
pub use Rattle.mls_sessions.proofs.SeatsKeep.{ascending_last, at_most}
-- a session at its place is of the office, and another with its number may stand there
pub use Rattle.mls_sessions.proofs.Lists.{ascending_read, ascending_put}
-- a list of feeds at a stage, with one more
pub use Rattle.mls_monitor.proofs.FeedLists.{at_snoc}
-- what a session has seen of the journal it doesn't lose
pub use Rattle.mls_sessions.proofs.Recency.{seen_since, made_since}
