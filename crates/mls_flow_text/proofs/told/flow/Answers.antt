use Rattle.std.specs.Prelude.{option_map}
use Rattle.mls_could.specs.Actors.{words_told}
use Rattle.mls_flow_text.specs.Asked.{TellsFlow, RefusesFlow}
use Rattle.mls_flow_text.proofs.Seen.{seen_ok, seen_err}
use Rattle.mls_flow_text.proofs.told.flow.Goals as goal

pub returns-clause-ok : goal.returns-clause-ok
returns-clause-ok c =
    seen_ok c.args.seen.now c.names.ensures.sees
    (λ r answer. TellsFlow c.args.form r.names r.state c.args.choice (words_told c.args.words) c.args.from.now (option_map (λ word. word.now) c.args.to) c.args.is_object
    answer.bytes.items answer.is_positive) c.tell_words.result c.tell_words.ensures.ok

pub returns-clause-fault : goal.returns-clause-fault
returns-clause-fault c =
    seen_err c.args.seen.now c.names.ensures.sees
    (λ r fault. RefusesFlow r.names r.state (words_told c.args.words) c.args.from.now (option_map (λ word. word.now) c.args.to) c.args.is_object fault)
    c.tell_words.result c.tell_words.ensures.fault
