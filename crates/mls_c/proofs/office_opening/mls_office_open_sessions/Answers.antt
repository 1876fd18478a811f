use Rattle.std.proofs.Common.{◌≡◌, ◌≢◌, length, true, true≢false, inr, refl, sym, subst, ◌∙◌, rules}
use Rattle.std.specs.Prelude.{Option}
use Rattle.mls_c.specs.Offices.{Hall, OpensOffice, ClosesOffice}
use Rattle.mls_c.specs.SessionHandles.{are_closed, handles_of}
use Rattle.mls_c.specs.declared.status.TheConstants.{OK, EBUSY}
use Rattle.mls_c.proofs.OfficeCalls.{stays, tried_on}
use Rattle.mls_c.proofs.office_opening.mls_office_open_sessions.Goals as goal

pub returns-then-close_monitor-eq-OK-clause-kept :
    goal.returns-then-close_monitor-eq-OK-clause-kept
returns-then-close_monitor-eq-OK-clause-kept c =
    let old = c.args.m.now.monitor.value in let n = length c.args.sessions.now in
    let mid = c.open_monitor-status.new.office.hall.value in let kept = c.hand_out_all.new.office.hall.value in
    let ok : c.open_monitor-status.result ≡ OK = search rules in
    let opens : OpensOffice old n mid = c.open_monitor-status.ensures.opened ok in
    let failed : c.hand_out_all.result ≢ OK = search rules in
    let same : kept ≡ mid = c.hand_out_all.ensures.same failed in
    let done : c.close_monitor.result ≡ OK = search rules in
    let closes : ClosesOffice kept c.close_monitor.new.m.monitor.value = c.close_monitor.ensures.closed done in
    λ _ _. stays old n kept c.close_monitor.new.m.monitor.value (subst (λ (x : Option Hall). OpensOffice old n x) (sym same) opens) closes

pub returns-else-close_monitor-eq-OK-clause-status :
    goal.returns-else-close_monitor-eq-OK-clause-status
returns-else-close_monitor-eq-OK-clause-status c =
    let closed : are_closed (handles_of c.args.sessions.now) ≡ true = search rules in
    let ok : c.open_monitor-status.result ≡ OK = search rules in (
      λ opened. absurd (true≢false (sym closed ∙ opened)),
      λ _. tried_on c.args.office.now.hall.value c.args.m.now.monitor.value (length c.args.sessions.now) c.open_monitor-status.result EBUSY c.open_monitor-status.ensures.status ok (inr (inr refl)),
    )
