use Rattle.mls_laws.proofs.Journalled.{read_legal, read_reason, released_legal, no_reason}
use Rattle.mls_laws.proofs.examples.some_accesses_have_a_reason.Goals as goal

pub returns : goal.returns
returns c = record { granted = (read_legal, read_reason); ended = (released_legal, no_reason) }
