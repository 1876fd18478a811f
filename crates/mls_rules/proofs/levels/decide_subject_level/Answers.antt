use Rattle.std.proofs.Common.{◌≡◌, true, Some, refl, sym, ap, ◌∙◌}
use Rattle.std.specs.FinMap as map
use Rattle.mls_state.specs.State.{is_above}
use Rattle.mls_rules.proofs.LevelTests.{trusted_stars}
use Rattle.mls_rules.proofs.levels.decide_subject_level.Goals as goal

pub returns-then-subject : goal.returns-then-subject
returns-then-subject g c =
    let v = c.args.state.now in
    let l = c.args.l.now in
    let above : is_above (map.get v.maximum c.args.s) (Some l) ≡ true = ap (λ m. is_above m (Some l)) c.subject-subject.ensures.maximum ∙ sym c.if-not-dominates.ensures in
    let star = trusted_stars v c.args.s l (c.subject-subject.ensures.trusted ∙ c.if-subject.true) in
    rw (above, star) refl
