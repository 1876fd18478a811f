use Rattle.mls_answers.proofs.SaidOfStarts.{checks_ok}
use Rattle.mls_answers.proofs.checked.check.Goals as goal

pub returns : goal.returns
returns c =
    checks_ok (λ bytes. bytes.items) c.args.form c.args.opened.now.file c.args.opened.now.loaded c.start.result.now c.check_over.result
    c.names.ensures.says c.start.ensures c.check_over.ensures
