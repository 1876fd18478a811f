use Rattle.std.proofs.Common.{◌≡◌, Some, true, subst, rules}
use Rattle.std.specs.Prelude.{Option}
use Rattle.mls_c.specs.Offices.{Seats}
use Rattle.mls_c.specs.SessionHandles.{AreOfOffice, are_numbered, are_open, handles_of}
use Rattle.mls_c.proofs.OfficeCalls.{their_sessions}
use Rattle.mls_c.proofs.office_closing.give_back.Goals as goal

pub take_all_back-requires-clause-sessions : goal.take_all_back-requires-clause-sessions
take_all_back-requires-clause-sessions c =
    let hs = handles_of c.args.sessions.now in
    let is : c.args.hall.now.seats ≡ Some c.in-Some.seats = search rules in
    let of : AreOfOffice c.args.serial (Some c.in-Some.seats) hs = subst (λ (x : Option Seats). AreOfOffice c.args.serial x hs) is c.requires in
    let numbered : are_numbered c.args.serial c.args.count 0 hs ≡ true = search rules in
    let opened : are_open hs ≡ true = search rules in
    their_sessions c.args.serial c.args.count 0 c.in-Some.seats hs of numbered opened
