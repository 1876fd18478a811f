use Rattle.std.proofs.Common.{sym}
use Rattle.mls_c.proofs.Batches.{all_said, status_done, status_refused}
use Rattle.mls_c.proofs.batch.decide_pairs.Goals as goal

pub returns-then-not-put_replies-clause-status : goal.returns-then-not-put_replies-clause-status
returns-then-not-put_replies-clause-status c =
    rw c.refuse-then-not-put_replies.ensures.status
    (status_refused c.args.standing.now c.args.subject c.args.mode c.in-Some.known c.args.pairs.now (sym c.in-Some.ensures) c.if-not-put_replies.ensures)

pub returns-clause-status : goal.returns-clause-status
returns-clause-status c =
    status_done c.args.standing.now c.args.subject c.args.mode c.in-Some.known c.args.pairs.now c.put_replies.new.replies (sym c.in-Some.ensures) c.if-not-put_replies.ensures

pub returns-clause-answered : goal.returns-clause-answered
returns-clause-answered c =
    λ _ v stands. all_said v c.args.subject c.args.mode c.args.standing.now stands c.args.pairs.now c.put_replies.new.replies c.if-not-put_replies.ensures
