-- What other crates may know of what is found for each item of a list.
pub use Rattle.mls_start_text.proofs.Rows.{length_each, own_some_more, own_some_lacks, own_lack, own_fold_more}
