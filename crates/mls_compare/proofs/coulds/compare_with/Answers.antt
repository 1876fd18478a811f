use Rattle.mls_compare.proofs.coulds.compare_with.Goals as goal

pub returns-clause-ok : goal.returns-clause-ok
returns-clause-ok c = (c.in_ok-second.second, c.in_ok-second.ensures.ok, c.in_ok-answer.ensures)
