use Rattle.mls_answers.specs.Answers.{TellsWord, RefusesWord}
use Rattle.mls_answers.proofs.Seen.{seen_ok, seen_err}
use Rattle.mls_answers.proofs.told.who.Goals as goal

pub returns-clause-ok : goal.returns-clause-ok
returns-clause-ok c =
    seen_ok c.args.seen.now c.names.ensures.sees (λ r answer. TellsWord c.args.form r.names r.state c.args.word.now c.args.mode answer.bytes.items answer.is_positive) c.tell_word.result c.tell_word.ensures.ok

pub returns-clause-fault : goal.returns-clause-fault
returns-clause-fault c = seen_err c.args.seen.now c.names.ensures.sees (λ r fault. RefusesWord r.names c.args.word.now fault) c.tell_word.result c.tell_word.ensures.fault
