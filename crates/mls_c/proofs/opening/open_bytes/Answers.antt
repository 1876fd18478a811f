use Rattle.std.proofs.Common.{refl}
use Rattle.mls_c.proofs.Openings.{says_opens}
use Rattle.mls_c.proofs.opening.open_bytes.Goals as goal

pub returns-clause-ok : goal.returns-clause-ok
returns-clause-ok c = says_opens _ c.in_ok-loaded.loaded _ _ c.in_ok-loaded.ensures.ok c.in_ok-open_loaded.ensures refl
