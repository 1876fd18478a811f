use Rattle.std.proofs.Common.{◌≡◌, ◌<◌, ◌==◌, ◌&&◌, not, length, subst, ◌∙◌, arith}
use Rattle.mls_tables.specs.Rows.{IsRows}
use Rattle.mls_tables.proofs.Rows.{IsRows-discarded, row-rises}
use Rattle.mls_tables.proofs.objects.take_object.Goals as goal

pub discard-requires-clause-ascending : goal.discard-requires-clause-ascending
discard-requires-clause-ascending g c =
    let told = c.requires.told in
    row-rises told.relation told.bound c.args.objects.now.lists told.rows c.from.result

pub returns-clause-taken : goal.returns-clause-taken
returns-clause-taken g c p n rows =
    let lists = c.args.objects.now.lists in
    let row : c.from.result ≡ c.args.s = c.from.ensures ∙ c.s.view_is in
    let here : c.from.result < length lists = omega (arith, c.requires.row) in
    subst (λ k. IsRows (λ b z. p b z && not (b == k && z == c.args.o)) n c.discard.new.self.lists) row (IsRows-discarded p n lists rows c.from.result c.args.o here c.discard.new.self.lists c.discard.ensures.gone)
