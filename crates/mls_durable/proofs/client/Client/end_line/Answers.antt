use Rattle.std.proofs.Common.{Ok, Err, ◌∷◌, [], ◌++◌, refl, ◌∙◌}
use Rattle.std.proofs.lemmas.Result.{err_from_is_err_and}
use Rattle.mls_scripts.specs.Script.{standing_of}
use Rattle.mls_durable.specs.Batches.{pending}
use Rattle.mls_durable.proofs.Batching.{known_stop, known_steps}
use Rattle.mls_durable.proofs.KeptLines.{kept_says}
use Rattle.mls_durable.proofs.client.Client.end_line.Goals as goal

pub returns-in_err-keep_open-clause-steps : goal.returns-in_err-keep_open-clause-steps
returns-in_err-keep_open-clause-steps g c =
    let p = err_from_is_err_and c.from_residual.result c.from_residual.ensures.1 in
    let names = c.args.names.now in
    let protocol = c.args.protocol in
    let first = pending (standing_of c.args.self.now.batch.vars.bound c.args.monitor.now) c.args.self.now.batch in
    let mid = pending (standing_of c.keep_open.new.self.batch.vars.bound c.args.monitor.now) c.keep_open.new.self.batch in
    rw (p.1, p.2) (λ line is. known_stop names protocol (Unit {0}) (Unit {0}) first mid mid [] ((line ++ c.args.last.now) ∷ []) _ _ c.in_err-keep_open.field-0.0 refl c.in_err-keep_open.ensures.steps)

pub returns-in_err-ask-clause-steps : goal.returns-in_err-ask-clause-steps
returns-in_err-ask-clause-steps g c =
    let p = err_from_is_err_and c.from_residual-in_err-ask.result c.from_residual-in_err-ask.ensures.1 in
    let names = c.args.names.now in
    let protocol = c.args.protocol in
    let first = pending (standing_of c.args.self.now.batch.vars.bound c.args.monitor.now) c.args.self.now.batch in
    let mid = pending (standing_of c.keep_open.new.self.batch.vars.bound c.args.monitor.now) c.keep_open.new.self.batch in
    let last = pending (standing_of c.ask.new.self.vars.bound c.ask.new.monitor) c.ask.new.self in
    rw (p.1, p.2) (λ line is.
    known_steps names protocol {X = Unit {0}} {Y = Unit {0}} tt first mid last [] ((line ++ c.args.last.now) ∷ []) _ _ _ (Err c.in_err-ask.field-0.0) c.in_ok-keep_open.ensures.steps
    (c.in_err-ask.ensures.steps (line ++ c.args.last.now) (kept_says names c.args.protocol.asker c.args.self.now.line.items line c.args.last.now c.deref.result.now is (c.deref.ensures.value ∙ c.in_ok-keep_open.ensures.line))))

pub returns-clause-steps : goal.returns-clause-steps
returns-clause-steps g c =
    let names = c.args.names.now in
    let protocol = c.args.protocol in
    let first = pending (standing_of c.args.self.now.batch.vars.bound c.args.monitor.now) c.args.self.now.batch in
    let mid = pending (standing_of c.keep_open.new.self.batch.vars.bound c.args.monitor.now) c.keep_open.new.self.batch in
    let last = pending (standing_of c.ask.new.self.vars.bound c.ask.new.monitor) c.ask.new.self in
    λ line is.
    known_steps names protocol {X = Unit {0}} {Y = Unit {0}} tt first mid last [] ((line ++ c.args.last.now) ∷ []) _ _ _ (Ok tt) c.in_ok-keep_open.ensures.steps
    (c.in_ok-ask.ensures.steps (line ++ c.args.last.now) (kept_says names c.args.protocol.asker c.args.self.now.line.items line c.args.last.now c.deref.result.now is (c.deref.ensures.value ∙ c.in_ok-keep_open.ensures.line)))
