use Rattle.mls_flows.proofs.NeverArrives.{never_arrives, never_brought}
use Rattle.mls_flows.proofs.never.no_content_arrives_where_the_closure_has_it_not.Goals as goal

pub returns : goal.returns
returns c = record {
  released = never_arrives;
  carried = never_brought;
}
