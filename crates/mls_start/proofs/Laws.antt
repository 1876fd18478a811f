-- What other rooms may know of the definitions of starts.

-- which subjects and objects the opening of rows has; to insert triples one after the other is to take the set of their list
pub use Rattle.mls_start.proofs.Opening.{subject_opening, active_opening, with_triples-from_list}
-- what is so of rows with which nothing is wrong, and of them alone; their opening is secure
pub use Rattle.mls_start.proofs.Faultless.{Faultless, faultless, from_faultless, secure_opening}
