use Rattle.std.proofs.Common.{◌≡◌, ◌<◌, ◌==◌, ◌&&◌, not, [], length, get_or, set, ap, subst, ◌∙◌, arith}
use Rattle.mls_tables.specs.Rows.{IsRows, is_in_run}
use Rattle.mls_tables.proofs.Rows.{IsRows-kept, row-rises}
use Rattle.mls_tables.proofs.TakenRuns.{cut_run}
use Rattle.mls_tables.proofs.runs.take_run.Goals as goal

pub returns-clause-taken : goal.returns-clause-taken
returns-clause-taken g c p n rows =
    let lists = c.args.objects.now.lists in
    let row : c.from-row.result ≡ c.args.s = c.from-row.ensures ∙ c.s.view_is in
    let here : c.from-row.result < length lists = omega (arith, c.requires.row) in
    let up = row-rises p n lists rows c.from-row.result in
    let first = (rw c.list.ensures at c.place_of_first-from.ensures.parts) up in
    let end = (rw c.list-2.ensures at c.place_of_end-to.ensures.parts) up (λ j before. let less = first.less j before in omega arith) in
    let kept = cut_run (get_or lists c.from-row.result []) c.args.first c.args.end c.place_of_first-from.result c.place_of_end-to.result c.requires.order c.place_of_end-to.ensures.least first end in
    subst (λ k. IsRows (λ b z. p b z && not (b == k && is_in_run c.args.first c.args.end z)) n c.cut.new.self.lists) row
    (IsRows-kept p n lists rows c.from-row.result (is_in_run c.args.first c.args.end) here c.cut.new.self.lists (c.cut.ensures ∙ ap (set lists c.from-row.result) kept))
