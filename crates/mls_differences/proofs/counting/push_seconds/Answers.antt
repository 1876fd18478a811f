use Rattle.mls_differences.proofs.Growing.{grown}
use Rattle.mls_differences.proofs.counting.push_seconds.Goals as goal

pub returns : goal.returns
returns c =
    let t2 = grown _ _ _ _ _ c.in_ok-push_pair.ensures c.in_ok-push_pair-2.ensures in
    let t3 = grown _ _ _ _ _ t2 c.in_ok-push_pair-3.ensures in
    grown _ _ _ _ _ t3 c.in_ok-push_pair-4.ensures
