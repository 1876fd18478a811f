-- What other crates may know of requests that bring an access about.

-- the way up to the root; what could be got is there
pub use Rattle.mls_ways.proofs.Making.{near_all, got_known}
-- states from which all that is held was released
pub use Rattle.mls_ways.proofs.Freeing.{released_secure, released_could}
