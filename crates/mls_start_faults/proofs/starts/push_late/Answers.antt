use Rattle.std.proofs.Common.{ap, codes, ◌∙◌}
use Rattle.mls_start_faults.specs.Places.{on_member}
use Rattle.mls_start_faults.specs.Starts.{before_words}
use Rattle.mls_start_faults.proofs.Repeated.{pushed}
use Rattle.mls_start_faults.proofs.starts.push_late.Goals as goal

pub returns : goal.returns
returns c =
    pushed c.push_place.result _ _ _ _
    (c.member.ensures ∙ ap (on_member (codes "objects") c.args.n (codes "parent")) (c.before_words-words.ensures ∙ ap before_words c.is_in_cycle.ensures))
    c.push_place.ensures
