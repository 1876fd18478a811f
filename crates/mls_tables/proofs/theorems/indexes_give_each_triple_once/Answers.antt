use Rattle.mls_tables.proofs.Once.{once_by_subject, once_by_object}
use Rattle.mls_tables.proofs.theorems.indexes_give_each_triple_once.Goals as goal

pub returns-clause-by_subject : goal.returns-clause-by_subject
returns-clause-by_subject c b n m few_subjects few_objects within t = once_by_subject b t n m few_subjects few_objects within

pub returns-clause-by_object : goal.returns-clause-by_object
returns-clause-by_object c b n m few_subjects few_objects within t = once_by_object b t n m few_subjects few_objects within
