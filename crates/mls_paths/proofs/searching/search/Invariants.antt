use Rattle.std.proofs.Common.{◌-◌}
use Rattle.mls_flows.specs.declared.place.Place.TheVariants.{Object}
use Rattle.mls_paths.specs.declared.numbering.TheConstants.{PLACES}
use Rattle.mls_paths.specs.Hands.{Hands}
use Rattle.mls_paths.specs.Searching.{IsUnderWay}
use Rattle.mls_paths.proofs.searching.search.Given as goal

-- all before the index is done
abbrev pub invariant-loop-at : goal.invariant-loop-at
invariant-loop-at l = IsUnderWay (Hands l.state l.ground) (Object l.fn.from) l.found.items l.marked.items l.at

abbrev pub decreases-loop-at : goal.decreases-loop-at
decreases-loop-at l = PLACES - l.at
