use Rattle.std.proofs.Common.{◌≡◌, ◌+◌, ◌*◌, ◌/◌, ◌<◌, not, refl, ◌∙◌, ap, rules}
use Rattle.std.proofs.Common.{get_or}
use Rattle.std.specs.FinSet as set
use Rattle.mls_tables.specs.Cells.{cell, half, no_pair, width, is_odd}
use Rattle.mls_tables.proofs.Cells.{read_cell, triples_of-remove}
use Rattle.mls_tables.proofs.matrix.Matrix.rescind.Goals as goal

pub returns : goal.returns
returns g c =
    let cells = c.self.inside.cells.items in
    let n = c.self.inside.subjects in
    let m = c.self.inside.columns in
    let subject : c.args.s < n = rw (← c.self.view_is) at c.requires.subject in
    let object : c.args.o < m = rw (← c.self.view_is) at c.requires.object in
    let at_place : c.place-at.result ≡ c.args.o * width n + c.args.s / 2 = search rules in
    let read = read_cell cells n m c.args.s c.args.o c.place-at.result c.index.result.now subject object c.self.invariant.cells at_place c.index.ensures in
    let odd : c.is_odd.result ≡ is_odd c.args.s = c.is_odd.ensures in
    let own : half c.without.result (is_odd c.args.s) ≡ set.remove (cell cells n c.args.s c.args.o) c.args.x = (rw odd at c.without.ensures.own) ∙ ap (λ modes. set.remove modes c.args.x) (read (is_odd c.args.s)) in
    let other : half c.without.result (not (is_odd c.args.s)) ≡ half (get_or cells (c.args.o * width n + c.args.s / 2) no_pair) (not (is_odd c.args.s)) = (rw odd at c.without.ensures.other) ∙ read (not (is_odd c.args.s)) in
    rw (at_place, ← c.self.view_is, triples_of-remove cells n m c.args.s c.args.o c.args.x c.without.result other subject object c.self.invariant.cells own) refl
