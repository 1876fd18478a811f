-- What other crates may know of what is appended to a page.

-- what is appended of a tree is what is written of it; a row more is appended; a page with a tree, and its end
pub use Rattle.mls_markup.proofs.Drafts.{added_bytes, added_tags, row_next, page_is}
