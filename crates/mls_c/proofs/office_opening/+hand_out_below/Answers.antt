use Rattle.std.proofs.Common.{◌++◌, ◌-◌, drop, sym, ap, ◌∙◌, arith}
use Rattle.mls_sessions.specs.Sessions.{Office}
use Rattle.mls_c.specs.Offices.{Seats}
use Rattle.mls_c.specs.SessionHandles.{handed_out, handles_of}
use Rattle.mls_c.proofs.SessionHandles.{last_above, last_newcomer, one_handed}
use Rattle.mls_c.proofs.office_opening.+hand_out_below.Goals as goal

pub take_back-requires-clause-above : goal.take_back-requires-clause-above
take_back-requires-clause-above t c =
    last_above c.args.seats.now.office c.args.n (c.args.n - 1) c.args.seats.now.home c.hand_out.new.self.home c.hand_out_below.new.seats.home c.in_ok-place.place.value.session
    (omega arith) c.requires.home c.in_ok-place.ensures.ok.1 (ap (λ (x : Seats). x.home) c.in-Err.ensures.err)

pub returns-in-Ok-clause-handed : goal.returns-in-Ok-clause-handed
returns-in-Ok-clause-handed t c =
    let o = c.args.seats.now.office in let n = c.args.n in let p = c.in_ok-place.place.value in
    let last = last_newcomer o n (n - 1) c.hand_out.new.self.home p.session (omega arith) (sym c.requires.home ∙ c.in_ok-place.ensures.ok.1) in
    one_handed o c.args.serial n (n - 1) c.args.sessions.now c.hand_out_below.new.sessions c.put.new.self p (omega arith) (omega arith)
    c.put.ensures.value c.in_ok-place.ensures.ok.0 last.1 c.put.ensures.serial c.put.ensures.number
    (c.in-Ok.ensures.handed ∙ ap (λ (x : Office). handed_out x c.args.serial (n - 1) ++ drop (n - 1) (handles_of c.args.sessions.now)) c.hand_out.ensures.office)
