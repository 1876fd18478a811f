-- What a start opens with.
use Rattle.mls_state.specs.Properties.{IsSecure}
use Rattle.mls_start.proofs.Faultless.{faultless, secure_opening}
use Rattle.mls_start.specs.Sources.{opens_with, IsFaultless}
use Rattle.mls_start.specs.declared.source.Source.{Source}
use Rattle.mls_start.specs.declared.source.Source.TheVariants as source

-- it is secure
pub secure_source : {A : Type 0} (x : Source A) → IsFaultless x → IsSecure (opens_with x)
secure_source (source.Rows rows) right = secure_opening rows (faultless rows right)
secure_source (source.State v) right = right
