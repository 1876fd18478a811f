use Rattle.std.proofs.Common.{None, subst, sym}
use Rattle.mls_labels.specs.Scheme.{IsScheme}
use Rattle.mls_lines.specs.Grammar.{Says}
use Rattle.mls_lines.specs.LineView.{Asks, submits}
use Rattle.mls_wording.proofs.RequestLines.{request_says}
use Rattle.mls_wording.proofs.theorems.requests_are_read_back.Goals as goal

pub returns : goal.returns
returns c =
    let names = c.args.names.now in
    let vars = c.args.vars.now.bound in
    let security = subst IsScheme c.security.ensures c.bounds.ensures.sound in
    let integrity = subst IsScheme c.integrity.ensures c.bounds-2.ensures.sound in
    λ r has first fits of is.
    c.lines_law.ensures.said (Asks None (submits r.subject r.action))
    (subst (λ line. Says names vars line (Asks None (submits r.subject r.action))) (sym is)
    (request_says names vars has c.a_written_label_is_spelled.ensures security integrity r.subject r.action first fits of))
