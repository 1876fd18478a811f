use Rattle.std.proofs.Common.{rules}
use Rattle.std.proofs.lemmas.Fn.{always_returns_same}
use Rattle.mls_tables.proofs.Ordered.{found}
use Rattle.mls_tables.proofs.objects.searched.Goals as goal

pub returns-clause-place : goal.returns-clause-place
returns-clause-place c up =
    let always = always_returns_same _ _ _ (λ a r f' called. search rules) in
    found c.args.list.now c.args.o c.binary_search_by_key.result (rw c.number.ensures at (c.binary_search_by_key.ensures.position (λ x. x) always)) up
