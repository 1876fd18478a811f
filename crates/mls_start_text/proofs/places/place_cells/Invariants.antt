use Rattle.std.proofs.Common.{◌≡◌, map, take, Some}
use Rattle.mls_start_text.specs.PlaceViews.{triple_view}
use Rattle.mls_start_text.specs.Placing.{triples_of}
use Rattle.mls_start_text.specs.Views.{cell_view}
use Rattle.mls_start_text.proofs.places.place_cells.Given as goal

-- the triples are those of the cells so far
abbrev pub invariant-loop-cell : goal.invariant-loop-cell
invariant-loop-cell l = triples_of l.names.subjects l.names.objects (map cell_view (take l.cell-index l.cells)) ≡ Some (map triple_view l.triples.items)
