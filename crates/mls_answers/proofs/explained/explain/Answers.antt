use Rattle.std.specs.Prelude.{option_map}
use Rattle.mls_answers.specs.Answers.{ExplainsEither, RefusesEither}
use Rattle.mls_answers.proofs.Seen.{seen_ok, seen_err}
use Rattle.mls_answers.proofs.explained.explain.Goals as goal

pub returns-clause-ok : goal.returns-clause-ok
returns-clause-ok c =
    seen_ok c.args.seen.now c.names.ensures.sees (λ r answer. ExplainsEither c.args.form r (option_map (λ bytes. bytes.now) c.args.line) answer.bytes.items answer.is_positive) c.explain_either.result c.explain_either.ensures.ok

pub returns-clause-fault : goal.returns-clause-fault
returns-clause-fault c = seen_err c.args.seen.now c.names.ensures.sees (λ r fault. RefusesEither r (option_map (λ bytes. bytes.now) c.args.line) fault) c.explain_either.result c.explain_either.ensures.fault
