use Rattle.std.proofs.Common.{◌≡◌, ◌+◌, length, vec_len, refl, ◌∙◌, arith, rules}
use Rattle.mls_tables.specs.Cells.{width}
use Rattle.mls_tables.proofs.Cells.{triples_of-more}
use Rattle.mls_tables.proofs.matrix.Matrix.add_object.Goals as goal

pub returns-clause-ok : goal.returns-clause-ok
returns-clause-ok g c =
    let cells = c.self.inside.cells.items in
    let by_index = c.in_ok-resize.ensures.by_index in
    let long : vec_len c.self.inside.cells ≡ length cells = c.self.inside.cells.ok.0 in
    let size : c.len.result + c.width.result ≡ length cells + width c.self.inside.subjects = rw (c.len.ensures, c.width.ensures, long) refl in
    rw (← c.self.view_is, triples_of-more cells c.resize.new.self.items c.self.inside.subjects c.self.inside.columns c.self.invariant.cells (λ k d there. by_index.0 k d (omega (arith, size)) (rw long there)) (λ k d from below. by_index.1 k d refl (rw long from) (omega (arith, size)) ∙ search rules)) refl
