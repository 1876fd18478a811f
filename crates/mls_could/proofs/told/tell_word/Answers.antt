use Rattle.std.proofs.Common.{sym, ap, ◌∙◌}
use Rattle.mls_futures.specs.Closure.{acts_in}
use Rattle.mls_replay.specs.Naming.{object_word}
use Rattle.mls_replay.specs.declared.question_fault.QuestionFault.TheVariants.{Object}
use Rattle.mls_could.specs.Actors.{words_told}
use Rattle.mls_could.proofs.Telling.{named_is, tells, refuses_memory}
use Rattle.mls_could.proofs.told.tell_word.Goals as goal

pub returns-clause-ok : goal.returns-clause-ok
returns-clause-ok c =
    tells c.args.form c.args.seen.now.names c.args.seen.now.state c.args.choice (words_told c.args.words) c.args.word.now c.args.mode (acts_in c.deref.result.now) c.in_ok-object.object
    c.tell_acting-told.result (named_is (object_word c.args.seen.now.names c.args.word.now) Object c.in_ok-object.object (sym c.object_of.ensures ∙ c.in_ok-object.was))
    c.in_ok-actors.ensures.known (λ s. ap (λ xs. acts_in xs s) c.deref.ensures.value ∙ c.in_ok-actors.ensures.ok s) c.tell_acting-told.ensures.ok

pub returns-clause-fault : goal.returns-clause-fault
returns-clause-fault c = refuses_memory c.args.form c.args.seen.now.names c.args.seen.now.state c.args.choice (words_told c.args.words) c.args.word.now c.args.mode c.tell_acting-told.result c.tell_acting-told.ensures.fault
