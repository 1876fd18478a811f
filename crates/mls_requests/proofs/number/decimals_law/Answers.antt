use Rattle.mls_facts.proofs.Decimals.{decimal-text, decimal-limit, decimal-read}
use Rattle.mls_requests.proofs.number.decimals_law.Goals as goal

pub returns-clause-read : goal.returns-clause-read
returns-clause-read c = decimal-text

pub returns-clause-limit : goal.returns-clause-limit
returns-clause-limit c = decimal-limit

pub returns-clause-written : goal.returns-clause-written
returns-clause-written c = decimal-read
