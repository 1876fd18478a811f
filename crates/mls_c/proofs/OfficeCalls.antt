-- What the steps of opening and of closing an office come to.
use Rattle.std.proofs.Common.{◌≡◌, inr, ℕ, ℤ, ◌+◌, ◌≤◌, Bool, true, false, ◌&&◌, List, [], ◌∷◌, refl, sym, subst, ◌∙◌, arith, true≢false}
use Rattle.std.proofs.lemmas.Bool.Decides.{nat_tests}
use Rattle.std.specs.Prelude.{Option, Some, None, IsSomeAnd, is_some, nat_eq}
use Rattle.mls_turns.specs.Journals.{journal}
use Rattle.mls_sessions.specs.Sessions.{Office, Session, Leaves, newcomers, number_of}
use Rattle.mls_c.specs.Opened.{Opened}
use Rattle.mls_c.specs.Offices.{Place, Hall, Seats, HasMonitor, OpensOffice, ClosesOffice, OfficeStatus, IsTried}
use Rattle.mls_c.specs.SessionHandles.{SessionHandle, IsAsBefore, StaysAs, IsTriedWith, AreOfOffice, AreSessionsOf, are_numbered, are_open}
use Rattle.mls_c.specs.declared.status.TheConstants.{OK}
use Rattle.mls_c.proofs.Offices.{same_entries}

-- an office whose sessions made nothing gives the monitor back
unused : (v : Opened) (n : ℕ) (h : Hall) (x : Option Seats) (new : Option Opened) → h.opened.names ≡ v.names → IsSomeAnd x (HasMonitor v n)
    → IsSomeAnd x (λ t. IsSomeAnd new (λ w. (w.names ≡ h.opened.names) × Leaves t.office t.home (journal w.start w.forgotten w.entries))) → IsSomeAnd new (IsAsBefore v)
unused v n h None new names has closes = absurd has
unused v n h (Some t) None names has closes = absurd closes
unused v n h (Some t) (Some w) names has closes =
    let j = journal w.start w.forgotten w.entries in
    let left : Leaves t.office (newcomers t.office n) j = subst (λ (ss : List Session). Leaves t.office ss j) has.1 closes.1 in
    let more : v.forgotten ≤ w.forgotten = subst (λ k. k ≤ w.forgotten) has.0.2 left.forgotten in
    (closes.0 ∙ names, left.start ∙ has.0.0, same_entries t.office n j has.0.3 left ∙ has.0.1, more)

pub stays : (old : Option Opened) (n : ℕ) (mid : Option Hall) (new : Option Opened) → OpensOffice old n mid → ClosesOffice mid new → StaysAs old new
stays None n mid new opens closes = absurd opens
stays (Some v) n None new opens closes = absurd opens
stays (Some v) n (Some h) new opens closes = inr (unused v n h h.seats new opens.0 opens.1 closes)

-- once it is open, it ends as it may
pub tried_on : (hall : Option Hall) (v : Option Opened) (n : ℕ) (s end : ℤ) → OfficeStatus IsTried hall v n s → s ≡ OK → IsTriedWith end → OfficeStatus IsTriedWith hall v n end
tried_on (Some h) v n s end is ok ends = absurd (cc)
tried_on None None n s end is ok ends = absurd (cc)
tried_on None (Some v) n s end is ok ends = (λ can. ends, λ no. let wrong = is.1 no in absurd (cc))

both_true : (a b : Bool) → (a && b) ≡ true → (a ≡ true) × (b ≡ true)
both_true true b is = (refl, is)
both_true false b is = absurd (true≢false (sym is))

some_of : (place : Option Place) → is_some place ≡ true → (p : Place) × (place ≡ Some p)
some_of None is = absurd (true≢false (sym is))
some_of (Some p) is = (p, refl)

its_session : (o : Office) (k : ℕ) (place : Option Place) (p : Place) → place ≡ Some p → p.office ≡ o → number_of p.session.view ≡ k → IsSomeAnd place (λ q. (q.office ≡ o) × (number_of q.session.view ≡ k))
its_session o k place p is office number = subst (λ (x : Option Place). IsSomeAnd x (λ q. (q.office ≡ o) × (number_of q.session.view ≡ k))) (sym is) (office, number)

-- handles that are numbered and open have the sessions of their office
pub their_sessions : (serial count k : ℕ) (t : Seats) (hs : List SessionHandle) → AreOfOffice serial (Some t) hs → are_numbered serial count k hs ≡ true → are_open hs ≡ true → AreSessionsOf t.office k hs
their_sessions serial count k t [] of numbered is_open = tt
their_sessions serial count k t (h ∷ hs) of numbered is_open =
    let first = both_true (nat_eq h.serial serial) (nat_eq h.number k && are_numbered serial count (k + 1) hs) numbered in
    let second = both_true (nat_eq h.number k) (are_numbered serial count (k + 1) hs) first.1 in
    let opens = both_true (is_some h.place) (are_open hs) is_open in
    let place = some_of h.place opens.0 in
    let serial_is : h.serial ≡ serial = grind (arith, nat_tests, first.0) in
    let number_is : h.number ≡ k = grind (arith, nat_tests, second.0) in
    let facts = of.0 serial_is t place.0 refl place.1 in
    (its_session t.office k h.place place.0 place.1 facts.0 (facts.1 ∙ number_is), their_sessions serial count (k + 1) t hs of.1 second.1 opens.1)
