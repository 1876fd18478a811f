use Rattle.std.proofs.Common.{◌≡◌, true, false, sym, ◌∙◌}
use Rattle.mls_snapshots.proofs.state_reading.compare_text.Goals as goal

pub returns-then-not-is_same_text-clause-accepted : goal.returns-then-not-is_same_text-clause-accepted
returns-then-not-is_same_text-clause-accepted c same =
    absurd (let no : false ≡ true = sym c.if-not-is_same_text.true ∙ c.is_same_text.ensures.accepted (c.as_str.ensures.value ∙ c.in_ok-written.ensures ∙ same) in cc)

pub returns-clause-text : goal.returns-clause-text
returns-clause-text c = sym c.in_ok-written.ensures ∙ sym c.as_str.ensures.value ∙ c.is_same_text.ensures.same c.if-not-is_same_text.false
