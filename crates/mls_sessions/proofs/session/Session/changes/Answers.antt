use Rattle.std.proofs.Common.{rules, ◌≡◌}
use Rattle.mls_sessions.specs.Sessions.{IsOf, Sees, seated, member_of, number_of, changes_seen}
use Rattle.mls_sessions.proofs.Counting.{count_rises, count_keeps}
use Rattle.mls_sessions.proofs.session.Session.changes.Goals as goal

pub returns-clause-rises : goal.returns-clause-rises
returns-clause-rises c = let o = c.args.office.now in let s = c.args.self.now in let me = c.tally.new.seat.me in
    let of : IsOf o s = search rules in
    let is : me ≡ seated o.charter (member_of me.0) = search rules in
    let same : number_of me.0 ≡ number_of s.view = search rules in
    let sees : Sees o.charter s.view me.0 = search rules in
    let counted : c.tally.result ≡ changes_seen me.0 = search rules in
    count_rises o s of me is same sees c.tally.result counted

pub returns-clause-keeps : goal.returns-clause-keeps
returns-clause-keeps c = let o = c.args.office.now in let s = c.args.self.now in let me = c.tally.new.seat.me in
    let of : IsOf o s = search rules in
    let is : me ≡ seated o.charter (member_of me.0) = search rules in
    let same : number_of me.0 ≡ number_of s.view = search rules in
    let sees : Sees o.charter s.view me.0 = search rules in
    let counted : c.tally.result ≡ changes_seen me.0 = search rules in
    count_keeps o s of me is same sees c.tally.result counted
