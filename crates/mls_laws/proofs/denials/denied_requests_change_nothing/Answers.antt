use Rattle.mls_laws.proofs.Answered.{after_denied, after_undefined}
use Rattle.mls_laws.proofs.denials.denied_requests_change_nothing.Goals as goal

pub returns : goal.returns
returns c = record { denied = after_denied; undefined = after_undefined }
