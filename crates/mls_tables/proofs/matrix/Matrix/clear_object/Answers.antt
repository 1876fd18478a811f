use Rattle.std.proofs.Common.{◌≡◌, ◌+◌, ◌-◌, ◌*◌, ◌<◌, ◌++◌, take, drop, ap, ◌∙◌, sym, arith}
use Rattle.std.proofs.lemmas.List.{with_items_is}
use Rattle.mls_tables.specs.Triples.{TripleSet}
use Rattle.mls_tables.specs.Table.{Table}
use Rattle.mls_tables.specs.Cells.{width, triples_of}
use Rattle.mls_tables.proofs.Cells.{triples_of-written, length-written}
use Rattle.mls_tables.proofs.matrix.Matrix.clear_object.Goals as goal

pub returns : goal.returns
returns g c =
    let cells = c.self.inside.cells in
    let n = c.self.inside.subjects in
    let m = c.self.inside.columns in
    let with_triples : TripleSet → Table = λ triples. record { subjects = n; columns = m; triples = triples } in
    let object : c.args.o < m = rw (← c.self.view_is) at c.requires in
    let from : c.place-from.result ≡ c.args.o * width n = omega (arith, c.place-from.ensures) in
    let count = c.place-from.result + c.width.result - c.place-from.result in
    let long : c.place-from.result + c.width.result - c.place-from.result ≡ width n = omega (arith, c.width.ensures) in
    let size = length-written cells.items n m c.args.o object c.self.invariant.cells c.deref_mut.result.now c.clear.new.cells c.place-from.result count c.deref_mut.ensures.value from long c.clear.ensures in
    let items = with_items_is cells (take c.place-from.result c.deref_mut.result.now ++ (c.clear.new.cells ++ drop count (drop c.place-from.result c.deref_mut.result.now))) (size ∙ sym cells.ok.0) in
    rw (← c.self.view_is) (ap (λ now. with_triples (triples_of now n m)) items ∙ ap with_triples (triples_of-written cells.items n m c.args.o object c.self.invariant.cells c.deref_mut.result.now c.clear.new.cells c.place-from.result count c.deref_mut.ensures.value from long c.clear.ensures))
