use Rattle.std.proofs.Common.{refl, ◌∙◌}
use Rattle.std.proofs.lemmas.Result.{err_from_is_err_and}
use Rattle.mls_scripts.proofs.LineLemmas.{shorter}
use Rattle.mls_scripts.proofs.Pieces.{cut_none, cut_more, cut_stop, cut_end, cut_left}
use Rattle.mls_scripts.proofs.answering.Answering.reply_all.Goals as goal

pub loop-line-init : goal.loop-line-init
loop-line-init g c = record { cut = cut_none _ _ _ _ _; names = refl; session = refl; forgotten = refl }

pub returns-in_err-reply-clause-answered : goal.returns-in_err-reply-clause-answered
returns-in_err-reply-clause-answered g c =
    let inv = c.loop-line.invariant in
    let p = err_from_is_err_and c.from_residual.result c.from_residual.ensures.1 in
    rw (p.1, p.2) (cut_stop _ _ _ _ _ _ _ _ _ c.loop-line.rest.now _ _ _ _ _ inv.cut c.in-Some.ensures inv.names inv.session c.in_err-reply.ensures.replied)

pub loop-line-preserved : goal.loop-line-preserved
loop-line-preserved g c =
    let inv = c.loop-line.invariant in
    record {
      cut = cut_more _ _ _ _ _ _ _ _ _ c.loop-line.rest.now _ _ _ _ inv.cut c.in-Some.ensures inv.names inv.session c.in_ok-reply.ensures.replied;
      names = c.in_ok-reply.ensures.names ∙ inv.names;
      session = c.in_ok-reply.ensures.session ∙ inv.session;
      forgotten = c.in_ok-reply.ensures.forgotten ∙ inv.forgotten;
    }

pub loop-line-smaller : goal.loop-line-smaller
loop-line-smaller g c = shorter _ _ _ c.in-Some.ensures

pub returns-clause-answered : goal.returns-clause-answered
returns-clause-answered g c = cut_end _ _ _ _ _ _ _ c.loop-line.rest.now c.loop-line.invariant.cut c.in_default.ensures

pub returns-clause-left : goal.returns-clause-left
returns-clause-left g c = cut_left _ _ _ _ _ _ _ c.loop-line.rest.now c.loop-line.invariant.cut c.in_default.ensures
