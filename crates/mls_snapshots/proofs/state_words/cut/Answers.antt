use Rattle.std.proofs.Common.{sym}
use Rattle.mls_snapshots.proofs.Cuts.{split_front, split_none, front_all, behind_all}
use Rattle.mls_snapshots.proofs.state_words.cut.Goals as goal

pub returns-in-Some : goal.returns-in-Some
returns-in-Some c =
    let parts = split_front c.args.at c.args.text.now c.split_once.result c.in-Some.word c.in-Some.rest c.split_once.ensures.cases c.requires c.in-Some.is in
    record { front = parts.0; behind = parts.1 }

pub returns-in-None : goal.returns-in-None
returns-in-None c =
    let lacks = split_none c.args.at c.args.text.now c.split_once.result c.split_once.ensures.cases c.requires c.in-None.is in
    record { front = sym (front_all c.args.at c.args.text.now lacks); behind = sym (behind_all c.args.at c.args.text.now lacks) }
