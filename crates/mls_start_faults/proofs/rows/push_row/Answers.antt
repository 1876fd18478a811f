use Rattle.std.proofs.Common.{[], ◌∷◌, ap}
use Rattle.serde_json.specs.View.{view}
use Rattle.mls_start_faults.proofs.Repeated.{pushed_as}
use Rattle.mls_start_faults.specs.Places.{key, number}
use Rattle.mls_start_faults.specs.Rows.{part_places, row_places}
use Rattle.mls_start_faults.proofs.rows.push_row.Goals as goal

pub returns-in-None : goal.returns-in-None
returns-in-None c =
    pushed_as c.push_place.result _ _ _ _ _ c.row.ensures
    (ap (part_places (key c.args.list.now ∷ number c.args.n ∷ []) (row_places c.args.row (key c.args.list.now ∷ number c.args.n ∷ []) c.args.n (view c.args.value.now))) c.in-None.ensures)
    c.push_place.ensures
