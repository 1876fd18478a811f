use Rattle.mls_laws.proofs.FlowExamples.{flows_up, feeds_only}
use Rattle.mls_laws.proofs.examples.something_flows.Goals as goal

pub returns : goal.returns
returns c = record { up = flows_up; trusted = feeds_only }
