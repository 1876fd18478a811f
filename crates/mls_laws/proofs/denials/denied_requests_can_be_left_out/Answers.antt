use Rattle.mls_laws.proofs.Answered.{replies_without, state_without}
use Rattle.mls_laws.proofs.denials.denied_requests_can_be_left_out.Goals as goal

pub returns : goal.returns
returns c = record { replies = replies_without; state = state_without }
