-- Lists of sessions at home, sessions that made nothing, and what opening and closing tell.
use Rattle.std.proofs.Common.{◌≡◌, ℕ, suc, zero, ◌+◌, ◌<◌, ◌≤◌, Bool, List, [], ◌∷◌, ◌++◌, length, drop, refl, sym, ap, subst, ◌∙◌, arith, eq-eqb, append-nil, ⊎_elim}
use Rattle.std.proofs.lemmas.List.{length_push}
use Rattle.std.proofs.Math.Nat.{eq-or-lt_of_le}
use Rattle.std.proofs.Math.Seq.{drop-append_seam}
use Rattle.std.specs.Prelude.{Option, Some, None, IsSomeAnd, if◌then◌else◌}
use mathlib.Core.List.{cons≢nil}
use Rattle.mls_requests.specs.declared.entry.Entry.{Entry}
use Rattle.mls_requests.specs.declared.request.Request.{Request}
use Rattle.mls_monitor.specs.Entries.{of_session, AllBelow}
use Rattle.mls_turns.specs.Journals.{Journal, journal}
use Rattle.mls_sessions.specs.Rule.{base, news}
use Rattle.mls_sessions.specs.Sessions.{Office, Session, Ascending, IsOf, HasAll, Leaves, Submits, newcomers, number_of}
use Rattle.mls_c.specs.Opened.{Opened}
use Rattle.mls_c.specs.Answers.{answer_of}
use Rattle.mls_c.specs.declared.answer.Answer.{Answer}
use Rattle.mls_c.specs.Offices.{Place, Hall, Seats, NumbersBelow, MakesEntry, HasMonitor, OpensOffice, ClosesOffice, opened_of}
use Rattle.mls_sessions.proofs.Laws.{at_most}
pub use Rattle.mls_sessions.proofs.Laws.{ascending_last}

-- one with a number above those of the others may come last
pub one_more : (o : Office) (k n : ℕ) (xs : List Session) (s : Session) → Ascending o k xs → NumbersBelow n xs → n ≤ number_of s.view → k ≤ number_of s.view → IsOf o s → Ascending o k (xs ++ s ∷ [])
one_more o k n [] s a b le low of = (of, low, tt)
one_more o k n (x ∷ xs) s a b le low of = let lt = b.0 in let next : number_of x.view + 1 ≤ number_of s.view = omega arith in (a.0, a.1, one_more o (number_of x.view + 1) n xs s a.2 b.1 le next of)

-- then there was room for it
pub has_room : (o : Office) (k : ℕ) (xs : List Session) (s : Session) → Ascending o 0 xs → NumbersBelow (number_of s.view) xs → IsOf o s → o.charter.count ≤ k → length xs < k
has_room o k xs s a b of room =
    let all = at_most o (xs ++ s ∷ []) (one_more o 0 (number_of s.view) xs s a b (omega arith) (omega arith) of) in let many = length_push xs s in omega arith

-- a session made an entry
pub makes_entry : (p q : Place) (request : Option Request) (r : Request) (e : Entry) (answer : Answer) → request ≡ Some r → q.office ≡ p.office → number_of q.session.view ≡ number_of p.session.view → Submits p.office.charter p.session.view r e q.session.view → answer ≡ answer_of e.number e.reply
    → MakesEntry (Some p) request (Some q) answer
makes_entry p q request r e answer is same number made told = subst (λ (x : Option Request). MakesEntry (Some p) x (Some q) answer) (sym is) ((same, number), (e, made, told))

-- sessions that made nothing leave the journal as it was
has_back : (o : Office) (j : Journal) (xs ys : List Session) → HasAll o j (xs ++ ys) → HasAll o j ys
has_back o j [] ys all = all
has_back o j (x ∷ xs) ys all = has_back o j xs ys all.2

has_front : (o : Office) (j : Journal) (xs ys : List Session) → HasAll o j (xs ++ ys) → HasAll o j xs
has_front o j [] ys all = tt
has_front o j (x ∷ xs) ys all = (all.0, all.1, has_front o j xs ys all.2)

none_left : (n : ℕ) (es : List Entry) → AllBelow n es → ((k : ℕ) → k < n → of_session k es ≡ []) → es ≡ []
none_left n [] b none = refl
none_left n (e ∷ es) b none = absurd (cons≢nil (sym (ap (λ (x : Bool). if x then e ∷ of_session e.session es else of_session e.session es) (eq-eqb e.session e.session refl)) ∙ none e.session b.0))

none_of : (o : Office) (j : Journal) (k m : ℕ) → HasAll o j (newcomers o (suc m)) → k ≡ m → of_session k (news o.charter j) ≡ []
none_of o j k m all is = subst (λ (n : ℕ). of_session n (news o.charter j) ≡ []) (sym is) (has_back o j (newcomers o m) _ all).1

own_none : (o : Office) (j : Journal) (n k : ℕ) → k < n → HasAll o j (newcomers o n) → of_session k (news o.charter j) ≡ []
own_none o j zero k lt all = absurd (omega arith)
own_none o j (suc m) k lt all = let le : k ≤ m = omega arith in
    ⊎_elim (λ (is : k ≡ m). none_of o j k m all is) (λ (low : k < m). own_none o j m k low (has_front o j (newcomers o m) _ all)) (eq-or-lt_of_le le)

no_news : (o : Office) (n : ℕ) (j : Journal) → o.charter.count ≡ n → Leaves o (newcomers o n) j → news o.charter j ≡ []
no_news o n j is left = none_left o.charter.count (news o.charter j) left.below (λ k lt. own_none o j n k (subst (λ (c : ℕ). k < c) is lt) left.all)

pub same_entries : (o : Office) (n : ℕ) (j : Journal) → o.charter.count ≡ n → Leaves o (newcomers o n) j → j.entries ≡ base o.charter
same_entries o n j is left = let p = left.begins in
    let rest : p.0 ≡ [] = sym (drop-append_seam (base o.charter) p.0) ∙ ap (λ (es : List Entry). drop (length (base o.charter)) es) p.1 ∙ no_news o n j is left in
    sym p.1 ∙ ap (λ (es : List Entry). base o.charter ++ es) rest ∙ append-nil (base o.charter)

-- an office is opened with a monitor
pub opens_office : (old : Option Opened) (n : ℕ) (new : Option Hall) (v : Opened) (h : Hall) → old ≡ Some v → new ≡ Some h → h.opened.names ≡ v.names → IsSomeAnd h.seats (HasMonitor v n) → OpensOffice old n new
opens_office old n new v h was is names seats = subst (λ (x : Option Opened). OpensOffice x n new) (sym was) (subst (λ (x : Option Hall). OpensOffice (Some v) n x) (sym is) (names, seats))

-- the open monitor of an office's handle stays
pub same_opened : (old new : Option Hall) (h g : Hall) → old ≡ Some h → new ≡ Some g → g.opened ≡ h.opened → opened_of new ≡ opened_of old
same_opened old new h g was is same = ap opened_of is ∙ ap (λ (v : Opened). Some v) same ∙ sym (ap opened_of was)

-- an office is closed
abbrev pub Gives : Hall → Opened → Type 0
Gives h v = IsSomeAnd h.seats (λ t. (v.names ≡ h.opened.names) × Leaves t.office t.home (journal v.start v.forgotten v.entries))

given : (h : Hall) (seats : Option Seats) (v : Opened) → IsSomeAnd seats (λ t. (v.names ≡ h.opened.names) × Leaves t.office t.home (journal v.start v.forgotten v.entries))
    → IsSomeAnd seats (λ t. IsSomeAnd (Some v) (λ w. (w.names ≡ h.opened.names) × Leaves t.office t.home (journal w.start w.forgotten w.entries)))
given h None v g = g
given h (Some t) v g = g

pub closes_office : (old : Option Hall) (new : Option Opened) (h : Hall) (v : Opened) → old ≡ Some h → new ≡ Some v → Gives h v → ClosesOffice old new
closes_office old new h v was is g = subst (λ (x : Option Hall). ClosesOffice x new) (sym was) (subst (λ (x : Option Opened). ClosesOffice (Some h) x) (sym is) (given h h.seats v g))
