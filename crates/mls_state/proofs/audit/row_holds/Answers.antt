use Rattle.std.proofs.Common.{◌≡◌, true, refl, sym, ap, ◌∙◌}
use Rattle.std.specs.List.{list_all}
use Rattle.std.proofs.lemmas.List.{take_all}
use Rattle.mls_tables.specs.Held.{each_mode}
use Rattle.mls_tables.proofs.Laws.{row_passes}
use Rattle.mls_state.specs.Audit.{access_holds}
use Rattle.mls_state.proofs.audit.row_holds.Goals as goal

pub returns : goal.returns
returns g c =
    let v = c.args.state.now in
    let items = c.objects_of-o-items.result.now in
    let all : list_all (λ o. each_mode v.accesses c.args.s o (access_holds v)) items ≡ true =
    ap (list_all (λ o. each_mode v.accesses c.args.s o (access_holds v))) (sym (take_all c.loop-o.o-index items c.loop-o-test.false)) ∙ c.loop-o.invariant in
    (λ _ t there own. row_passes v.accesses c.args.s (access_holds v) items c.objects_of-o-items.ensures.each all t there own, λ _. refl)
