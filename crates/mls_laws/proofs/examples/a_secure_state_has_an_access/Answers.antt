use Rattle.mls_laws.proofs.ExampleStart.{nothing_wrong, start_secure}
use Rattle.mls_laws.proofs.Replied.{reads_granted, reads_secure, reads_held}
use Rattle.mls_laws.proofs.examples.a_secure_state_has_an_access.Goals as goal

pub returns : goal.returns
returns c = record { start = nothing_wrong; opening = start_secure; reply = reads_granted; secure = reads_secure; held = reads_held }
