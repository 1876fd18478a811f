use Rattle.std.proofs.Common.{◌≡◌, true, false, sym, subst, ◌∙◌, vec_len, arith}
use Rattle.std.proofs.lemmas.Bool.Decides.{nat_tests}
use Rattle.std.proofs.lemmas.Result.{IfOk-weaker, IfErr-weaker}
use Rattle.mls_monitor.specs.Journal.{Monitor}
use Rattle.mls_sessions.specs.Runs.{Grew}
use Rattle.mls_sessions.specs.Sessions.{is_count}
use Rattle.mls_sessions.proofs.Runs.{grew_none, grew_as}
use Rattle.mls_sessions.proofs.run.run_sessions.Goals as goal

pub returns-in-Err-clause-err : goal.returns-in-Err-clause-err
returns-in-Err-clause-err g c = subst (λ (m : Monitor). Grew c.args.monitor.start c.args.monitor.entries c.args.monitor.forgotten (vec_len c.args.feeds) m) (sym c.in-Err.ensures.monitor) (grew_none c.args.monitor (vec_len c.args.feeds))

pub returns-in-Ok-open_as-clause-ok : goal.returns-in-Ok-open_as-clause-ok
returns-in-Ok-open_as-clause-ok g c =
    IfOk-weaker c.ended.result _ _ (λ run same. subst (λ (m : Monitor). Grew c.args.monitor.start c.args.monitor.entries c.args.monitor.forgotten (vec_len c.args.feeds) m) (sym same.0)
    (grew_as c.in-Ok-open_as.ensures.start c.in-Ok-open_as.ensures.base c.in-Ok-open_as.ensures.forgotten (grind (arith, nat_tests, c.in-Ok-open_as.ensures.count, c.if-len.false, c.len.ensures, c.len-n.ensures)) c.run_open.ensures.grew)) c.ended.ensures.ok

pub returns-in-Ok-open_as-clause-err : goal.returns-in-Ok-open_as-clause-err
returns-in-Ok-open_as-clause-err g c =
    IfErr-weaker c.ended.result _ _ (λ fault same. subst (λ (m : Monitor). Grew c.args.monitor.start c.args.monitor.entries c.args.monitor.forgotten (vec_len c.args.feeds) m) (sym same.0)
    (grew_as c.in-Ok-open_as.ensures.start c.in-Ok-open_as.ensures.base c.in-Ok-open_as.ensures.forgotten (grind (arith, nat_tests, c.in-Ok-open_as.ensures.count, c.if-len.false, c.len.ensures, c.len-n.ensures)) c.run_open.ensures.grew)) c.ended.ensures.err

pub returns-in-Err-clause-bad : goal.returns-in-Err-clause-bad
returns-in-Err-clause-bad g c = λ bad.
    let right : is_count (vec_len c.args.feeds) ≡ true = grind (arith, nat_tests, c.if-is_empty.false, c.is_empty.ensures, c.if-len.false, c.len.ensures) in
    absurd (let no : true ≡ false = sym right ∙ bad in cc)
