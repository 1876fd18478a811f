-- What other crates may know of the feeds of scripts.

-- what feeds left is what their scripts leave in threads
pub use Rattle.mls_runs.proofs.Feeds.{leaves_in_threads}
