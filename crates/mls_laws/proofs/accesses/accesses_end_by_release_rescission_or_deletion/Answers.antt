use Rattle.mls_laws.proofs.Provenances.{over, ended}
use Rattle.mls_laws.proofs.accesses.accesses_end_by_release_rescission_or_deletion.Goals as goal

pub returns : goal.returns
returns c = record { over = λ v e s o x h. over v e s o x h.tree; ended = λ v e s o x h. ended v e s o x h.tree }
