use Rattle.std.specs.Prelude.{option_map}
use Rattle.mls_answers.specs.Answers.{TellsChanges, RefusesSubject}
use Rattle.mls_answers.proofs.Seen.{seen_ok, seen_err}
use Rattle.mls_answers.proofs.changed.powers.Goals as goal

pub returns-clause-ok : goal.returns-clause-ok
returns-clause-ok c =
    seen_ok c.args.seen.now c.names.ensures.sees (λ r answer. TellsChanges c.args.form r.names r.state (option_map (λ lent. lent.now) c.args.word) c.args.downgrades answer.bytes.items answer.is_positive) c.tell_word.result c.tell_word.ensures.ok

pub returns-clause-fault : goal.returns-clause-fault
returns-clause-fault c = seen_err c.args.seen.now c.names.ensures.sees (λ r fault. RefusesSubject r.names (option_map (λ lent. lent.now) c.args.word) fault) c.tell_word.result c.tell_word.ensures.fault
