use Rattle.std.proofs.Common.{◌≡◌, map, take, Some}
use Rattle.serde_json.specs.View.{view}
use Rattle.mls_start_text.specs.Each.{each_of}
use Rattle.mls_start_text.specs.Texts.{cell_of}
use Rattle.mls_start_text.specs.Views.{cell_view}
use Rattle.mls_complete.proofs.rows.read_cells.Given as goal

-- the rows are those of the values so far
abbrev pub invariant-loop-value : goal.invariant-loop-value
invariant-loop-value l = each_of cell_of (map view (take l.value-index l.list)) ≡ Some (map cell_view l.rows.items)
