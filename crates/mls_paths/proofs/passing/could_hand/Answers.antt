use Rattle.std.proofs.Common.{◌≡◌, true, false, sym, ◌∙◌}
use Rattle.mls_paths.specs.Hands.{acts_of}
use Rattle.mls_paths.proofs.Tables.{giver_known}
use Rattle.mls_paths.proofs.passing.could_hand.Goals as goal

pub returns-then-not-is_subject : goal.returns-then-not-is_subject
returns-then-not-is_subject c = (
  λ is. let no : false ≡ true = is in cc,
  λ giver. sym (sym c.is_subject.ensures ∙ c.if-not-is_subject.true) ∙ giver_known c.args.state.now (acts_of c.args.ground) c.agrees.ensures.whole c.args.s c.args.t giver,
)
