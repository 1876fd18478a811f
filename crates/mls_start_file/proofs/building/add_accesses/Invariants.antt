use Rattle.std.proofs.Common.{◌≡◌, map, take}
use Rattle.std.specs.FinSet as set
use Rattle.mls_tables.specs.Triples.{triple_cmp}
use Rattle.mls_start_text.specs.PlaceViews.{triple_view}
use Rattle.mls_start_file.proofs.building.add_accesses.Given as goal

-- the builder has the triples so far
abbrev pub invariant-loop-triple : goal.invariant-loop-triple
invariant-loop-triple l = l.builder ≡ record l.fn.builder { accesses = set.from_list {R = triple_cmp} (map triple_view (take l.triple-index l.triples)) }
