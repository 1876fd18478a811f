use Rattle.std.proofs.Common.{◌≡◌, Some, None, true, false, rules, ap, ◌∙◌, ◌++◌}
use Rattle.mls_scripts.specs.Script.{answer_bytes}
use Rattle.mls_durable.specs.Sessions.{head_for, is_silent, number_text}
use Rattle.mls_durable.proofs.AnswerLines.{silent_line, plain_line, numbered_line}
use Rattle.mls_durable.proofs.answer_line.push_answer_line.Goals as goal

pub returns-then-is_silent : goal.returns-then-is_silent
returns-then-is_silent c =
    let quiet : is_silent c.args.answer.now ≡ true = search rules in
    silent_line c.args.text.now.items (head_for c.args.who) (number_text c.args.number) c.args.answer.now quiet

pub returns-in-Some : goal.returns-in-Some
returns-in-Some c =
    let loud : is_silent c.args.answer.now ≡ false = search rules in
    let there : c.args.number ≡ Some c.in-Some.number = search rules in
    rw there (numbered_line c.args.text.now.items (head_for c.args.who) c.push_answer.new.text.items c.number_last.new.text.items c.in-Some.number c.number_last.result c.number_last.ensures c.args.answer.now loud
    (c.in_ok-push_answer.ensures ∙ ap (λ t. t ++ answer_bytes c.args.answer.now) c.in_ok-push_head.ensures))

pub returns-in-None : goal.returns-in-None
returns-in-None c =
    let loud : is_silent c.args.answer.now ≡ false = search rules in
    let there : c.args.number ≡ None = search rules in
    rw there (plain_line c.args.text.now.items (head_for c.args.who) c.push_answer.new.text.items c.args.answer.now loud
    (c.in_ok-push_answer.ensures ∙ ap (λ t. t ++ answer_bytes c.args.answer.now) c.in_ok-push_head.ensures))
