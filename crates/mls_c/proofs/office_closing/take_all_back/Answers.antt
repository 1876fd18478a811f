use Rattle.std.proofs.Common.{◌≡◌, Some, sym, ap, ◌∙◌}
use Rattle.mls_c.specs.declared.session_handle.MlsSession.{MlsSession}
use Rattle.mls_c.proofs.SessionHandles.{above_home, one_home, one_shut, session_there, some_there}
use Rattle.mls_c.proofs.office_closing.take_all_back.Goals as goal

pub unreachable-requires : goal.unreachable-requires
unreachable-requires c =
    some_there c.args.seats.now.office c.args.sessions.now c.loop-n.sessions c.loop-n.n c.index-sessions-n.result c.loop-n-test.true c.index-sessions-n.is c.requires.sessions c.loop-n.invariant.2
    (ap (λ (s : MlsSession). s.place.value) c.index-sessions-n.is ∙ c.in_default.ensures.none)

pub take_back-requires-clause-office : goal.take_back-requires-clause-office
take_back-requires-clause-office c =
    (session_there c.args.seats.now.office c.args.sessions.now c.loop-n.sessions c.loop-n.n c.index-sessions-n.result c.loop-n-test.true c.index-sessions-n.is c.requires.sessions c.loop-n.invariant.2
    c.in-Some.place.value (ap (λ (s : MlsSession). s.place.value) c.index-sessions-n.is ∙ c.in-Some.ensures.some)).0
    ∙ sym c.loop-n.invariant.0

pub take_back-requires-clause-above : goal.take_back-requires-clause-above
take_back-requires-clause-above c =
    above_home c.args.seats.now.office c.args.sessions.now c.loop-n.n _ c.loop-n.seats.home c.requires.sessions c.loop-n.invariant.1
    (session_there c.args.seats.now.office c.args.sessions.now c.loop-n.sessions c.loop-n.n c.index-sessions-n.result c.loop-n-test.true c.index-sessions-n.is c.requires.sessions c.loop-n.invariant.2
    c.in-Some.place.value (ap (λ (s : MlsSession). s.place.value) c.index-sessions-n.is ∙ c.in-Some.ensures.some)).1

pub loop-n-preserved : goal.loop-n-preserved
loop-n-preserved c =
    let x = c.index-sessions-n.result in let same = c.index-sessions-n.is in let old = c.args.sessions.now in let now = c.loop-n.sessions in let k = c.loop-n.n in
    let held : x.place.value ≡ Some c.in-Some.place.value = ap (λ (s : MlsSession). s.place.value) same ∙ c.in-Some.ensures.some in (
      c.take_back.ensures.office ∙ c.loop-n.invariant.0,
      c.take_back.ensures.back ∙ one_home old now k x c.in-Some.place.value c.loop-n.seats.home c.loop-n-test.true same c.loop-n.invariant.2 held c.loop-n.invariant.1,
      one_shut old now k x c.loop-n-test.true same c.loop-n.invariant.2 c.take.new.self c.take.ensures.closed
          (c.take.ensures.serial ∙ sym (ap (λ (s : MlsSession). s.serial) same)) (c.take.ensures.number ∙ sym (ap (λ (s : MlsSession). s.number) same)),
    )
