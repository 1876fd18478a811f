use Rattle.std.proofs.Common.{rules}
use Rattle.mls_labels.proofs.NamePlaces.{added_is, added_once, twice_where_not_added}
use Rattle.mls_labels.proofs.name_set.NameSet.from_names.Goals as goal

pub loop-name-preserved : goal.loop-name-preserved
loop-name-preserved g c = (
  added_is c.args.names.now c.loop-name.name-index _ c.loop-name.kept c.insert.new.self c.in_ok-added.added c.loop-name-test.true c.loop-name.invariant.0 c.in_ok-added.ensures.kept c.if-not-added.false,
  added_once _ c.loop-name.kept c.insert.new.self c.in_ok-added.added c.loop-name.invariant.1 c.in_ok-added.ensures.added c.in_ok-added.ensures.kept c.if-not-added.false,
)

pub returns-then-not-added-clause-repeated : goal.returns-then-not-added-clause-repeated
returns-then-not-added-clause-repeated g c =
    search (rules, twice_where_not_added)
