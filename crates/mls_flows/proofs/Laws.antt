-- What other crates may know of requests that carry content.

-- a place is in a state
pub use Rattle.mls_flows.proofs.Before.{IsIn}
-- ways on, one behind another, and the content that they carry
pub use Rattle.mls_flows.proofs.Passing.{and_on, requests_both, way_of, along_both, along_last, grown_itself, grown_alike, grown_on}
pub use Rattle.mls_flows.proofs.Passing.{Carries}
-- scripts leave the bounds of integrity and the next number; what could be got still could
pub use Rattle.mls_flows.proofs.Getting.{could_grown, known_grown, trusted_grown, in_grown, still_at, bounds_still, after_next, script_bounds, script_next}
-- objects through which content is handed on
pub use Rattle.mls_flows.proofs.Handed.{HasSubjects, subjects_grown, between_made, IsWell, well_grown, controls_it, could_append, could_read}
pub use Rattle.mls_flows.proofs.Handed.{grant_made, is_made, keeps_made, grown_made, within_made, below_there, above_there}
-- strict integrity of what alters, and of what observes
pub use Rattle.mls_flows.proofs.Handing.{altered_below, observed_above}
