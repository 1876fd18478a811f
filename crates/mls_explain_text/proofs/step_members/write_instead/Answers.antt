use Rattle.std.proofs.Common.{rules, ◌≡◌, ◌++◌, ◌∷◌, [], codes, ap, ◌∙◌}
use Rattle.std.specs.declared.alloc.AllocError.{AllocError}
use Rattle.std.proofs.lemmas.List.{append_assoc}
use Rattle.std.proofs.lemmas.Result.{on_ok_weaker}
use Rattle.json.specs.Token.{key}
use Rattle.mls_explain_text.specs.StepMembers.{step_object}
use Rattle.mls_explain_text.proofs.step_members.write_instead.Goals as goal

pub returns : goal.returns
returns c =
    let t0 = c.args.writer.now in
    let t1 = c.key.new.self in
    let t2 = c.write_step.new.writer in
    let k = key (codes "instead") in
    let object = step_object c.args.names.now c.args.step.now in
    let keyed : t1.tokens ≡ t0.tokens ++ k ∷ [] = search rules in
    let same : t1.before ≡ t0.before = search rules in
    on_ok_weaker {T = Unit {0}} {E = AllocError} {P = (t2.tokens ≡ t1.tokens ++ object) × (t2.before ≡ t1.before)}
    {Q = (t2.tokens ≡ t0.tokens ++ k ∷ object) × (t2.before ≡ t0.before)} c.write_step.result
    (λ both. (both.0 ∙ ap (λ tokens. tokens ++ object) keyed ∙ append_assoc t0.tokens (k ∷ []) object, both.1 ∙ same))
    c.write_step.ensures
