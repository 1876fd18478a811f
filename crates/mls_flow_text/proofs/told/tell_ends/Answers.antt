use Rattle.std.proofs.Common.{ap, ◌∙◌}
use Rattle.mls_futures.specs.Closure.{acts_in}
use Rattle.mls_could.specs.Actors.{words_told}
use Rattle.mls_flow_text.proofs.Telling.{tells, refuses_memory}
use Rattle.mls_flow_text.proofs.told.tell_ends.Goals as goal

pub returns-clause-ok : goal.returns-clause-ok
returns-clause-ok c =
    tells c.args.form c.args.seen.now.names c.args.seen.now.state c.args.choice (words_told c.args.words) (acts_in c.deref.result.now) c.args.ends
    c.tell_acting-told.result c.in_ok-actors.ensures.known (λ s. ap (λ xs. acts_in xs s) c.deref.ensures.value ∙ c.in_ok-actors.ensures.ok s) c.tell_acting-told.ensures.ok

pub returns-clause-fault : goal.returns-clause-fault
returns-clause-fault c = refuses_memory c.args.seen.now.names c.args.seen.now.state (words_told c.args.words) c.tell_acting-told.result c.tell_acting-told.ensures.fault
