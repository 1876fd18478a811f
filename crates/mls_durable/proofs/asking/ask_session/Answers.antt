use Rattle.std.proofs.Common.{◌≡◌, true, false, rules}
use Rattle.mls_lines.specs.ScriptLine.{line_of}
use Rattle.mls_scripts.specs.Script.{standing_of}
use Rattle.mls_durable.specs.Sessions.{has_variable}
use Rattle.mls_durable.proofs.Asked.{left_variable, plain_said}
use Rattle.mls_durable.proofs.asking.ask_session.Goals as goal

pub returns-then-has_variable-clause-stands : goal.returns-then-has_variable-clause-stands
returns-then-has_variable-clause-stands c =
    let has : has_variable true c.args.line.now ≡ true = search rules in
    left_variable c.args.session (standing_of c.args.vars.now.bound c.args.monitor.now) (line_of c.args.names.now c.args.vars.now.bound c.args.line.now) (has_variable true c.args.line.now) has

pub returns-clause-answer : goal.returns-clause-answer
returns-clause-answer c =
    let none : has_variable true c.args.line.now ≡ false = search rules in
    rw (plain_said (has_variable true c.args.line.now) (line_of c.args.names.now c.args.vars.now.bound c.args.line.now) none) c.answer.ensures.answer

pub returns-clause-stands : goal.returns-clause-stands
returns-clause-stands c =
    let none : has_variable true c.args.line.now ≡ false = search rules in
    rw (plain_said (has_variable true c.args.line.now) (line_of c.args.names.now c.args.vars.now.bound c.args.line.now) none) c.answer.ensures.stands
