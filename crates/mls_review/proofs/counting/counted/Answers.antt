use Rattle.std.proofs.Common.{◌≡◌, All, sym, subst}
use Rattle.mls_review.specs.Flows.{count_not_above}
use Rattle.mls_review.specs.declared.counting.Count.{Count}
use Rattle.mls_review.proofs.counting.counted.Goals as goal

pub returns-in-Some-clause-count : goal.returns-in-Some-clause-count
returns-in-Some-clause-count g c =
    let v = c.args.state.now in
    c.in-Some.ensures (count_not_above v c.args.altered.now)
    (subst (All (λ (k : Count). k.below ≡ count_not_above v c.args.altered.now k.label)) (sym c.deref.ensures.value) c.requires.each)
