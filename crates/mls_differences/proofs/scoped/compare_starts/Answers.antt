use Rattle.std.proofs.Common.{subst}
use Rattle.std.specs.Prelude.{IfOk}
use Rattle.mls_differences.specs.Scoped.{TellsFoundBy}
use Rattle.mls_differences.proofs.Told.{starts_told}
use Rattle.mls_differences.proofs.scoped.compare_starts.Goals as goal

pub returns : goal.returns
returns c =
    starts_told c.args.form c.args.words.0.now c.args.words.1.now c.args.first.now c.args.second.now c.in_ok-found.found c.in_ok-found.ensures
    c.args.scope.summary c.args.scope.broken c.tell_found-answer.result
    (subst (λ a. IfOk c.tell_found-answer.result (λ listing. TellsFoundBy c.args.scope.summary c.args.scope.broken c.args.form c.args.words.0.now c.args.words.1.now
    a c.args.second.now.names c.in_ok-found.found listing)) c.names.ensures.names
    (subst (λ b. IfOk c.tell_found-answer.result (λ listing. TellsFoundBy c.args.scope.summary c.args.scope.broken c.args.form c.args.words.0.now c.args.words.1.now
    c.names.result.now b c.in_ok-found.found listing)) c.names-2.ensures.names c.tell_found-answer.ensures))
