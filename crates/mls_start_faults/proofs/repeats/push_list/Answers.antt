use Rattle.std.proofs.Common.{◌≡◌, ◌∙◌, ◌++◌, sym, ap, subst, map, Some}
use Rattle.std.specs.Prelude.{OnOk}
use Rattle.json.proofs.Trees.{view-Array}
use Rattle.json.specs.Value.{value_view}
use Rattle.mls_start_faults.proofs.Repeated.{values_back}
use Rattle.mls_start_faults.specs.Each.{at_each}
use Rattle.mls_start_faults.specs.Repeated.{row_places, list_places}
use Rattle.mls_start_faults.specs.Places.{located_view}
use Rattle.mls_start_faults.proofs.repeats.push_list.Goals as goal

lines_are : (c : goal.After-push_rows)
    → at_each (row_places c.args.kept c.args.list.now) 0 (map value_view c.deref.result.now) ≡ list_places c.args.kept c.args.list.now (Some (value_view c.args.value.now))
lines_are c =
    ap (λ vs. at_each (row_places c.args.kept c.args.list.now) 0 (map value_view vs)) c.deref.ensures.value
    ∙ ap (at_each (row_places c.args.kept c.args.list.now) 0) (sym (values_back (map value_view c.in-Array.rows.items)))
    ∙ ap (λ j. list_places c.args.kept c.args.list.now (Some j)) (sym (view-Array c.in-Array.rows))
    ∙ ap (λ v. list_places c.args.kept c.args.list.now (Some (value_view v))) (sym c.in-Array.is)

pub returns-in-Array : goal.returns-in-Array
returns-in-Array c =
    subst (λ t. OnOk c.push_rows.result (map located_view c.push_rows.new.found.items ≡ map located_view c.args.found.now.items ++ t)) (lines_are c) c.push_rows.ensures
