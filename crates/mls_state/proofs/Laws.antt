-- What other rooms may know of the definitions of states.

-- tests of each triple of a set, as the set changes
pub use Rattle.mls_state.proofs.EachTriple.{Each-empty, Each-insert, Each-remove, within-insert, within-remove, kept_there, kept_passes, within-retain}
-- to test each triple of a set is to test all of a list that has just them, and so one at a place of it
pub use Rattle.mls_state.proofs.AllTriples.{Each-from_all, all-from_Each, at-from_Each}
-- the objects stay a tree
pub use Rattle.mls_state.proofs.TreeKept.{grown_tree, delete_tree, relabel_tree}
-- what tables have of subjects that aren't known and objects that aren't active: nothing
pub use Rattle.mls_state.proofs.Unlisted.{unknown_subject, inactive_object}
