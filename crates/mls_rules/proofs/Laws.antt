-- What other rooms may know of the rules.

-- what a request leaves as it was: what holds of a state and of its change where the request is granted; every condition of what is granted holds
pub use Rattle.mls_rules.proofs.AfterKeeps.{IsGranted, after_keeps, grant_holds}
-- each request leaves a secure state secure
pub use Rattle.mls_rules.proofs.Security.{after_secure}
