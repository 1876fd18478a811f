use Rattle.mls_futures.proofs.NeverHeld.{never_more}
use Rattle.mls_futures.proofs.never.what_could_come_only_shrinks.Goals as goal

pub returns : goal.returns
returns c = never_more
