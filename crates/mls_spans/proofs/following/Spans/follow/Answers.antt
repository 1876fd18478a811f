use Rattle.std.proofs.Common.{rules, ◌≡◌}
use Rattle.mls_spans.specs.Sweeping.{moved, sought}
use Rattle.mls_spans.proofs.Standing.{moved_stand}
use Rattle.mls_spans.proofs.following.Spans.follow.Goals as goal

pub returns-clause-stand : goal.returns-clause-stand
returns-clause-stand c =
    let asked = sought c.args.state.now c.args.entry.now.request.subject c.args.entry.now.request.action in
    let is : c.begin.new.self.spans.items ≡ moved c.apply.new.state c.args.entry.now asked c.args.self.now.spans.items = search rules in
    moved_stand c.apply.new.state c.args.entry.now asked c.args.self.now.spans.items c.begin.new.self.spans.items is
