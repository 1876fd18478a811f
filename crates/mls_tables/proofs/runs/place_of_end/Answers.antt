use Rattle.std.proofs.Common.{◌≡◌, ◌≤◌, get_or, arith}
use Rattle.std.proofs.lemmas.List.{get_or_default}
use Rattle.mls_tables.proofs.TakenRuns.{less_both, parts_at}
use Rattle.mls_tables.proofs.runs.place_of_end.Goals as goal

pub returns-then-end-number-clause-parts : goal.returns-then-end-number-clause-parts
returns-then-end-number-clause-parts c up low =
    let list = c.args.list.now in
    let at = c.loop-at.at in
    let here : get_or list at c.index-list-at.result ≡ get_or list at 0 = get_or_default list at c.index-list-at.result 0 c.loop-at-test.true in
    let high : c.args.end ≤ get_or list at 0 = omega (arith, c.index-list-at.is, c.number.ensures) in
    parts_at list c.args.end at up c.loop-at-test.true high (less_both list c.args.end c.args.from at low c.loop-at.invariant.less)
