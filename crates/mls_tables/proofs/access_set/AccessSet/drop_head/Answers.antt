use Rattle.std.proofs.Common.{◌≡◌, ◌≤◌, get_or, sym, ◌∙◌, arith}
use Rattle.std.proofs.lemmas.List.{get_or_default}
use Rattle.mls_tables.proofs.IndexedTable.{without_first-unknown}
use Rattle.mls_tables.proofs.access_set.AccessSet.drop_head.Goals as goal

pub returns-then-columns-number-clause-removed : goal.returns-then-columns-number-clause-removed
returns-then-columns-number-clause-removed g c =
    let now = c.args.self.now in
    let group = c.args.group.now in
    let head : get_or group 0 0 ≡ c.number.result = get_or_default group 0 0 c.index-group-0.result c.requires ∙ sym c.index-group-0.is ∙ sym c.number.ensures in
    let past : now.columns ≤ get_or group 0 0 = omega (arith, c.columns-columns.ensures.reply, c.if-columns-number.true) in
    λ i. record { subjects = now.subjects; columns = now.columns; triples = sym (without_first-unknown now.subjects now.columns now.triples group c.columns-columns.ensures.within c.requires past) i }
