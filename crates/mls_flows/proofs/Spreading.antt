-- Content that is carried over a journal, and on over another one.
use Rattle.std.proofs.Common.{◌≡◌, ℕ, zero, suc, Bool, true, List, [], ◌∷◌, ◌++◌, refl, sym, subst}
use Rattle.mls_tables.specs.declared.mode.Mode.{Mode}
use Rattle.mls_requests.specs.declared.entry.Entry.{Entry}
use Rattle.mls_state.specs.State.{State, is_active}
use Rattle.mls_rules.specs.Rules.{after}
use Rattle.mls_monitor.specs.Journal.{fold}
use Rattle.mls_flows.specs.Arriving.{Spreads, was, saw, left, Keeps, IsCarried, StaysThere, IsAt}
use Rattle.mls_flows.specs.declared.place.Place.{Place}
use Rattle.mls_flows.specs.declared.place.Place.TheVariants.{Subject, Object}

-- where more places have the content, more do in the end
pub spreads_more : (v : State) (acts : ℕ → Bool) (has more : Place → Type 0) (p : Place) → ((q : Place) → has q → Spreads v acts more q) → Spreads v acts has p → Spreads v acts more p
spreads_more v acts has more p on (was q had) = on q had
spreads_more v acts has more p on (saw s o x observe actor held rest) = saw s o x observe actor held (spreads_more v acts has more (Object o) on rest)
spreads_more v acts has more p on (left s o x alter actor held rest) = left s o x alter actor held (spreads_more v acts has more (Subject s) on rest)

pub keeps_more : (w : State) (has more : Place → Type 0) (p : Place) → ((q : Place) → has q → more q) → Keeps w has p → Keeps w more p
keeps_more w has more (Subject s) on kept = on (Subject s) kept
keeps_more w has more (Object o) on kept = (on (Object o) kept.0, kept.1)

pub carried_more : (entries : List Entry) (v : State) (acts : ℕ → Bool) (has more : Place → Type 0) (p : Place) → ((q : Place) → has q → Spreads v acts more q)
    → IsCarried v acts has entries p → IsCarried v acts more entries p
carried_more [] v acts has more p on carried = spreads_more v acts has more p on carried
carried_more (e ∷ entries) v acts has more p on carried =
    carried_more entries (after v e.request) acts (Keeps (after v e.request) (Spreads v acts has)) (Keeps (after v e.request) (Spreads v acts more)) p
    (λ q kept. was q (keeps_more (after v e.request) (Spreads v acts has) (Spreads v acts more) q (λ m had. spreads_more v acts has more m on had) kept)) carried

-- content that is carried to a place, and on from there
pub carried_both : (front rest : List Entry) (v : State) (acts : ℕ → Bool) (has : Place → Type 0) (q p : Place) → IsCarried v acts has front q
    → IsCarried (fold v front) acts (IsAt q) rest p → IsCarried v acts has (front ++ rest) p
carried_both [] rest v acts has q p first later =
    carried_more rest v acts (IsAt q) has p (λ m is. subst (Spreads v acts has) (sym is) first) later
carried_both (e ∷ front) rest v acts has q p first later =
    carried_both front rest (after v e.request) acts (Keeps (after v e.request) (Spreads v acts has)) q p first later

-- what a place has it keeps as long as it is there
pub carried_still : (entries : List Entry) (v : State) (acts : ℕ → Bool) (has : Place → Type 0) (q : Place) → has q → StaysThere v entries q → IsCarried v acts has entries q
carried_still [] v acts has q had stays = was q had
carried_still (e ∷ entries) v acts has (Subject s) had stays =
    carried_still entries (after v e.request) acts (Keeps (after v e.request) (Spreads v acts has)) (Subject s) (was (Subject s) had) tt
carried_still (e ∷ entries) v acts has (Object o) had stays =
    carried_still entries (after v e.request) acts (Keeps (after v e.request) (Spreads v acts has)) (Object o) (was (Object o) had, stays (suc zero)) (λ n. stays (suc n))
