use Rattle.std.proofs.Common.{◌≡◌, ◌+◌, ◌*◌, ◌/◌, ◌<◌, sym, ap, ◌∙◌, rules}
use Rattle.std.specs.FinSet as set
use Rattle.mls_tables.specs.Cells.{cell, half, width, is_odd}
use Rattle.mls_tables.proofs.Cells.{read_cell, contains-cell}
use Rattle.mls_tables.proofs.matrix.Matrix.modes.Goals as goal

pub returns : goal.returns
returns g c =
    let cells = c.self.inside.cells.items in
    let n = c.self.inside.subjects in
    let m = c.self.inside.columns in
    let subject : c.args.s < n = rw (← c.self.view_is) at c.requires.subject in
    let object : c.args.o < m = rw (← c.self.view_is) at c.requires.object in
    let at_place : c.place.result ≡ c.args.o * width n + c.args.s / 2 = search rules in
    let read : c.half.result ≡ cell cells n c.args.s c.args.o = c.half.ensures ∙ ap (half c.index.result.now) c.is_odd.ensures ∙ read_cell cells n m c.args.s c.args.o c.place.result c.index.result.now subject object c.self.invariant.cells at_place c.index.ensures (is_odd c.args.s) in
    record { cell = λ x. rw (← c.self.view_is) (ap (λ v. set.contains v x) read ∙ sym (contains-cell cells n m c.args.s c.args.o x subject object)) }
