use Rattle.std.proofs.Common.{◌≡◌, ◌<◌, ◌==◌, ◌&&◌, ◌||◌, length, subst, ◌∙◌, arith}
use Rattle.mls_tables.specs.Rows.{IsRows}
use Rattle.mls_tables.proofs.Rows.{IsRows-entered}
use Rattle.mls_tables.proofs.subjects.enter_subject.Goals as goal

pub returns-clause-entered : goal.returns-clause-entered
returns-clause-entered g c p n below rows =
    let lists = c.args.subjects.now.lists in
    let column : c.from-column.result ≡ c.args.o = c.from-column.ensures ∙ c.o.view_is in
    let here : c.from-column.result < length lists = omega (arith, c.requires.column) in
    let place = rw c.list.ensures at c.place_of_subject-place.ensures.place in
    subst (λ k. IsRows (λ b z. (b == k && z == c.args.s) || p b z) n c.enter.new.self.lists) column (IsRows-entered p n lists rows c.from-column.result c.args.s c.place_of_subject-place.result place here below c.enter.new.self.lists c.enter.ensures)
