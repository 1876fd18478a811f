use Rattle.std.proofs.Common.{Some, arith}
use Rattle.mls_facts.proofs.Lists.{length-filter-le}
use Rattle.mls_review.specs.Flows.{is_not_above, pairs_from}
use Rattle.mls_review.proofs.Pairs.{count_more, first_of_more, pairs_length}
use Rattle.mls_review.proofs.flows.pairs_among.Goals as goal

pub joined-found-requires-clause-room : goal.joined-found-requires-clause-room
joined-found-requires-clause-room g c =
    let v = c.args.state.now in
    omega (arith, c.loop-a.invariant.few, c.in_ok-count.ensures.count, length-filter-le (is_not_above v (Some c.object_label-label.result)) c.args.altered.now, c.requires.few_altered, c.requires.few_observed)

pub loop-a-preserved : goal.loop-a-preserved
loop-a-preserved g c =
    let v = c.args.state.now in
    let altered = c.args.altered.now in
    let f = pairs_from v altered in
    record {
      count = count_more f c.args.observed.now c.loop-a.a-index c.a-item.result c.loop-a.found.count c.in_ok-count.count c.joined-found.result.count c.loop-a-test.true c.a-item.is
          c.loop-a.invariant.count (pairs_length v altered c.a-item.result c.object_label-label.result c.in_ok-count.count c.object_label-label.ensures c.in_ok-count.ensures.count)
          c.joined-found.ensures.count;
      first = first_of_more f c.args.observed.now c.loop-a.a-index c.a-item.result c.loop-a.found.first c.joined-found.result.first c.loop-a-test.true c.a-item.is
          c.loop-a.invariant.first c.joined-found.ensures.first;
      each = c.counted.ensures.each;
      few = omega (arith, c.loop-a.invariant.few, c.joined-found.ensures.count, c.in_ok-count.ensures.count, length-filter-le (is_not_above v (Some c.object_label-label.result)) altered, c.requires.few_altered);
    }
