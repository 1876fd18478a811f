use Rattle.mls_scripts.proofs.answer.Script.answer.Goals as goal

pub returns-in-Some-clause-answer : goal.returns-in-Some-clause-answer
returns-in-Some-clause-answer g c = rw (c.in-Some.ensures c.args.vars.now.bound) (c.answer_access.ensures.answer c.args.vars.now.bound)

pub returns-in-Some-clause-stands : goal.returns-in-Some-clause-stands
returns-in-Some-clause-stands g c = rw (c.in-Some.ensures c.args.vars.now.bound) (c.answer_access.ensures.stands c.args.vars.now.bound)
