use Rattle.std.proofs.Common.{rules, ◌≡◌, false}
use Rattle.mls_state.specs.State.{is_subject}
use Rattle.mls_spans.proofs.Begins.{none_of_unknown}
use Rattle.mls_spans.proofs.opening.push_subject.Goals as goal

pub returns-then-not-is_subject : goal.returns-then-not-is_subject
returns-then-not-is_subject c =
    let unknown : is_subject c.args.state.now c.args.s ≡ false = search rules in
    none_of_unknown c.args.state.now c.args.s c.args.spans.now.items c.agrees.ensures.tree unknown
