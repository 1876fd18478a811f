-- What other crates may know of journals.

-- what a reply tells of the request, and what holds of each fold
pub use Rattle.mls_laws.proofs.Answered.{granted_from, grants, after_grant, by_reply, fold_secure, fold-append}
-- what no request changes
pub use Rattle.mls_laws.proofs.Kept.{Fixed, after_fixed, not_new, after_integrity}
-- how labels change
pub use Rattle.mls_laws.proofs.Falls.{above_itself, step_up}
pub use Rattle.mls_laws.proofs.FlowLabels.{above_trans}
