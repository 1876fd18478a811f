-- What other crates may know of the search: that it finds just what the closure has, and the way to each place.
pub use Rattle.mls_paths.proofs.Exact.{found_exact, way_comes}
