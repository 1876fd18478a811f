use Rattle.mls_answers.specs.Answers.{AnswersLine, RefusesLine}
use Rattle.mls_answers.proofs.Seen.{seen_ok, seen_err}
use Rattle.mls_answers.proofs.asked.ask.Goals as goal

pub returns-clause-ok : goal.returns-clause-ok
returns-clause-ok c =
    seen_ok c.args.seen.now c.names.ensures.sees (λ r answer. AnswersLine c.args.form r.names r.state c.args.line.now answer.bytes.items answer.is_positive) c.answer_line.result c.answer_line.ensures.ok

pub returns-clause-fault : goal.returns-clause-fault
returns-clause-fault c = seen_err c.args.seen.now c.names.ensures.sees (λ r fault. RefusesLine r.names c.args.line.now fault) c.answer_line.result c.answer_line.ensures.fault
