use Rattle.mls_laws.proofs.Answered.{legal_run}
use Rattle.mls_laws.proofs.Provenances.{held_from, granted_in}
use Rattle.mls_laws.proofs.accesses.every_access_has_its_reason.Goals as goal

pub returns : goal.returns
returns c = record {
  held = λ v entries s o x h legal. held_from v entries s o x h (legal_run v entries legal);
  new = λ v entries s o x h legal. granted_in v entries s o x h (legal_run v entries legal);
}
