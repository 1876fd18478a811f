-- What is known of lists of sessions and of feeds.
pub use Rattle.mls_sessions.proofs.Laws.{ascending_read, ascending_put, at_snoc}
