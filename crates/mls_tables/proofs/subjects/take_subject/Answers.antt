use Rattle.std.proofs.Common.{◌≡◌, ◌<◌, ◌==◌, ◌&&◌, not, length, set, ap, subst, ◌∙◌, arith}
use Rattle.mls_tables.specs.Rows.{IsRows}
use Rattle.mls_tables.proofs.Ordered.{left-filter}
use Rattle.mls_tables.proofs.Rows.{IsRows-discarded, row-rises}
use Rattle.mls_tables.proofs.subjects.take_subject.Goals as goal

pub returns-clause-taken : goal.returns-clause-taken
returns-clause-taken g c p n rows =
    let lists = c.args.subjects.now.lists in
    let column : c.from-column.result ≡ c.args.o = c.from-column.ensures ∙ c.o.view_is in
    let here : c.from-column.result < length lists = omega (arith, c.requires) in
    let place = rw c.list.ensures at c.place_of_subject-place.ensures.place in
    let rises = row-rises p n lists rows c.from-column.result in
    let gone = c.leave.ensures ∙ ap (set lists c.from-column.result) (left-filter _ c.args.s c.place_of_subject-place.result rises (place rises)) in
    subst (λ k. IsRows (λ b z. p b z && not (b == k && z == c.args.s)) n c.leave.new.self.lists) column (IsRows-discarded p n lists rows c.from-column.result c.args.s here c.leave.new.self.lists gone)
