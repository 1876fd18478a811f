use Rattle.mls_laws.proofs.AllReads.{same_state}
use Rattle.mls_laws.proofs.reading.reads_determine_the_state.Goals as goal

pub returns : goal.returns
returns c = same_state
