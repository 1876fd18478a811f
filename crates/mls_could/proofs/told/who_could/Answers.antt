use Rattle.mls_could.specs.Actors.{words_told}
use Rattle.mls_could.specs.Rows.{TellsCould, RefusesCould}
use Rattle.mls_could.proofs.Seen.{seen_ok, seen_err}
use Rattle.mls_could.proofs.told.who_could.Goals as goal

pub returns-clause-ok : goal.returns-clause-ok
returns-clause-ok c =
    seen_ok c.args.seen.now c.names.ensures.sees
    (λ r answer. TellsCould c.args.form r.names r.state c.args.choice (words_told c.args.words) c.args.word.now c.args.mode answer.bytes.items answer.is_positive)
    c.tell_word.result c.tell_word.ensures.ok

pub returns-clause-fault : goal.returns-clause-fault
returns-clause-fault c =
    seen_err c.args.seen.now c.names.ensures.sees (λ r fault. RefusesCould r.names r.state (words_told c.args.words) c.args.word.now fault)
    c.tell_word.result c.tell_word.ensures.fault
