use Rattle.mls_could.specs.Actors.{words_told}
use Rattle.mls_futures_text.specs.Whether.{TellsWhether, RefusesWhether}
use Rattle.mls_futures_text.proofs.Seen.{seen_ok, seen_err}
use Rattle.mls_futures_text.proofs.told.could.Goals as goal

pub returns-clause-ok : goal.returns-clause-ok
returns-clause-ok c =
    seen_ok c.args.seen.now c.names.ensures.sees
    (λ r answer. TellsWhether c.args.form r.names r.state c.args.choice (words_told c.args.words) c.args.line.now answer.bytes.items answer.is_positive)
    c.tell_line.result c.tell_line.ensures.ok

pub returns-clause-fault : goal.returns-clause-fault
returns-clause-fault c =
    seen_err c.args.seen.now c.names.ensures.sees (λ r fault. RefusesWhether r.names r.state (words_told c.args.words) c.args.line.now fault)
    c.tell_line.result c.tell_line.ensures.fault
