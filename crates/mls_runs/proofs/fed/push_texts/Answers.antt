use Rattle.std.proofs.Common.{refl, sym, ap, ◌∙◌, ◌+◌, ◌++◌, append-nil, arith}
use Rattle.mls_runs.proofs.Feeds.{fed_none, fed_more}
use Rattle.mls_runs.proofs.fed.push_texts.Goals as goal

pub loop-feed-init : goal.loop-feed-init
loop-feed-init c = record { text = sym (ap (λ t. c.args.output.now.items ++ t) (fed_none 0) ∙ append-nil c.args.output.now.items); session = refl }

pub loop-feed-preserved : goal.loop-feed-preserved
loop-feed-preserved c = record {
  text = fed_more _ _ _ _ _ c.args.feeds.now c.loop-feed.feed-index c.loop-feed.session c.feed-item.result (omega (arith, c.loop-feed-test.true)) c.loop-feed.invariant.session
      c.loop-feed.invariant.text c.in_ok-push_heading.ensures c.in_ok-extend_from_slice.ensures.items c.replies.ensures c.feed-item.is;
  session = ap (λ n. n + 1) c.loop-feed.invariant.session;
}
