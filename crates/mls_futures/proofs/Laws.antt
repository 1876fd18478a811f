-- What other crates may know of the closure, and of requests that bring an access about.

-- what could be got qualifies, and is permitted or could be given; what could be given and qualifies could be got
pub use Rattle.mls_futures.proofs.Walking.{got_qualifies, got_how, got_given}
-- the way from an object up to the root, and who could give at its end, and on it
pub use Rattle.mls_futures.proofs.Walking.{top_is_root, at_top, shut, open_here, through, way_begins, near_next, near_top}
-- what could be got could be got where other accesses are held
pub use Rattle.mls_futures.proofs.BothWays.{could_without}
-- states that are alike
pub use Rattle.mls_futures.proofs.Scripts.{alike_itself, alike_on, trusted_still}
pub use Rattle.mls_futures.proofs.Coming.{known_still, qualifies_still}
-- requests one after the other
pub use Rattle.mls_futures.proofs.Granted.{granted_both, run_both}
-- a release takes one access away
pub use Rattle.mls_futures.proofs.Journals.{release as release_of, released_one}
-- requests that are granted, and what they lead to
pub use Rattle.mls_futures.proofs.Scripts.{IsStep}
pub use Rattle.mls_futures.proofs.Steps.{give, release, level, get, lower, to_give, to_release, to_level, to_get, to_lower}
-- labels: the least one, and simple security at it
pub use Rattle.mls_futures.proofs.Steps.{above_least, label_there, has_least}
pub use Rattle.mls_futures.proofs.Coming.{cleared}
-- who controls an object; that what could be got has an actor
pub use Rattle.mls_futures.proofs.Coming.{parent_controls, actor_of}
-- what a request permits
pub use Rattle.mls_futures.proofs.Changing.{after_matrix}
-- a state that follows another one permits no more; what is held could be got
pub use Rattle.mls_futures.proofs.Shrinking.{Follows, shrinks, held_could, follows_actor, follows_release}
-- scripts, and the access that one brings about
pub use Rattle.mls_futures.proofs.Scripts.{Script, done, asks, Goes}
pub use Rattle.mls_futures.proofs.Steps.{HoldsOnly}
pub use Rattle.mls_futures.proofs.Coming.{TrustedKnown, comes}
-- journals of requests, and the releases of all that is held
pub use Rattle.mls_futures.proofs.Journals.{entries_of, number_after, entries-append, entries_legal, releases_of, are_releases, releases_lead, releases_keep}
pub use Rattle.mls_futures.proofs.Journals.{without, none_left, all_known, stays_both}
pub use Rattle.mls_futures.proofs.BothWays.{secure_without, object_of}
-- labels within the bounds, with one more
pub use Rattle.mls_futures.proofs.Within.{within_insert}
