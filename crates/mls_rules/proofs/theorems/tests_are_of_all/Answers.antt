use Rattle.std.proofs.Common.{eqb, eq-eqb}
use Rattle.std.proofs.lemmas.Bool.{eqb-true}
use Rattle.mls_rules.proofs.Listed.{one_of_children, all_of_children}
use Rattle.mls_rules.proofs.SecurityLevels.{one_of_picked, all_of_picked}
use Rattle.mls_rules.proofs.theorems.tests_are_of_all.Goals as goal

pub returns-clause-subject : goal.returns-clause-subject
returns-clause-subject c v s passes = (
  λ all t there own. one_of_picked v.accesses (λ u. eqb u.0 s) passes all t there (eq-eqb t.0 s own),
  λ known. all_of_picked v.accesses (λ u. eqb u.0 s) passes (λ t there own. known t there (eqb-true t.0 s own)),
)

pub returns-clause-object : goal.returns-clause-object
returns-clause-object c v o passes = (
  λ all t there held. one_of_picked v.accesses (λ u. eqb u.1 o) passes all t there (eq-eqb t.1 o held),
  λ known. all_of_picked v.accesses (λ u. eqb u.1 o) passes (λ t there held. known t there (eqb-true t.1 o held)),
)

pub returns-clause-children : goal.returns-clause-children
returns-clause-children c v o passes tree = (one_of_children v tree o passes, all_of_children v tree o passes)
