use Rattle.std.proofs.Common.{List, ◌++◌, map, take, option_map, ap}
use Rattle.std.proofs.lemmas.Result.{err_from_is_err_and}
use Rattle.std.specs.List.{flat_map}
use Rattle.mls_tables.specs.Triples.{Triple}
use Rattle.mls_start_text.specs.PlaceViews.{triple_view}
use Rattle.mls_start_text.specs.Placing.{cell_triples}
use Rattle.mls_start_text.specs.Views.{cell_view}
use Rattle.mls_start_text.proofs.Below.{triples_below}
use Rattle.mls_start_text.proofs.Placed.{cells_joined}
use Rattle.mls_start_text.proofs.Rows.{items_lack, fold_more}
use Rattle.mls_start_text.proofs.places.place_cells.Goals as goal

pub returns-in_err-place_cell-clause-fault : goal.returns-in_err-place_cell-clause-fault
returns-in_err-place_cell-clause-fault c =
    let p = err_from_is_err_and c.from_residual-in_err-place_cell.result c.from_residual-in_err-place_cell.ensures.1 in
    rw (p.1, p.2) (λ other.
    let unknown = c.in_err-place_cell.ensures.fault other in
    (unknown.0, ap (option_map (flat_map (λ (ts : List Triple). ts))) (items_lack cell_view (cell_triples c.args.names.now.subjects c.args.names.now.objects) c.args.cells.now c.loop-cell.cell-index c.cell-item.result c.loop-cell-test.true c.cell-item.is unknown.1)))

pub loop-cell-preserved : goal.loop-cell-preserved
loop-cell-preserved c =
    fold_more cell_view (cell_triples c.args.names.now.subjects c.args.names.now.objects) (flat_map (λ (ts : List Triple). ts)) (λ (ts us : List Triple). ts ++ us) cells_joined
    c.args.cells.now c.loop-cell.cell-index c.cell-item.result (map triple_view c.loop-cell.triples.items) (map triple_view c.place_cell.new.triples.items) c.loop-cell-test.true c.cell-item.is c.in_ok-place_cell.ensures.ok c.loop-cell.invariant

pub returns-clause-places : goal.returns-clause-places
returns-clause-places c = triples_below c.args.names.now.subjects c.args.names.now.objects (map cell_view (take c.loop-cell.cell-index c.args.cells.now)) c.loop-cell.triples.items c.loop-cell.invariant
