-- The steps of a meeting keep the gate's rule.
use Rattle.std.proofs.Common.{◌≡◌, ◌≢◌, ℕ, ◌<◌, ◌≤◌, eqb, Bool, List, [], ◌∷◌, length, length-append, refl, sym, ap, ◌∙◌, subst, inr, arith, eq-eqb, ne_eqb, le-ltb, lt-ltb}
use Rattle.std.specs.Prelude.{if◌then◌else◌}
use mathlib.Core.List.{IsPrefix}
use mathlib.Core.Option as maybe
use mathlib.Core.Logic.{dite}
use native.Mathlib.Decide.{dec_le}
use prog.Atomic.{either}
use base.Growing.{prefix_refl}
use Rattle.atomic_table.specs.Table.{keeps, step, Allows, Splits}
use Rattle.mls_requests.specs.declared.entry.Entry.{Entry}
use Rattle.mls_sessions.specs.declared.gate_table.Member.{Member}
use Rattle.mls_sessions.specs.declared.gate_table.View.{View}
use Rattle.mls_sessions.specs.declared.gate_table.View.TheVariants.{Spent, Sessions}
use Rattle.mls_sessions.specs.Journals.{Charter}
use Rattle.mls_monitor.specs.Entries.{of_session}
use Rattle.mls_sessions.specs.Rule.{member, Gated}
use Rattle.mls_sessions.specs.declared.gate_table.Stretch.{Stretch}
use Rattle.mls_sessions.specs.Steps.{Seat, longer, Agree, both_know, looked, both_of}
use Rattle.mls_sessions.specs.Sessions.{seated, Meets, history}
use Rattle.mls_sessions.proofs.OwnEntries.{prefix_shorter, own-between}
use Rattle.mls_sessions.proofs.StepsKeep.{running, same_state}
use Rattle.mls_sessions.proofs.SeatsKeep.{cuts, fits_goes, goes_to, goes_hit, goes_miss}

-- the longer of two beginnings of a list
module _ (x y : Member) (later : List Entry) (px : IsPrefix x.later later) (py : IsPrefix y.later later) (ox : of_session x.number x.later ≡ of_session x.number later) (oy : of_session y.number y.later ≡ of_session y.number later) where
  Both : List Entry → Type 0
  Both es = IsPrefix es later × IsPrefix x.later es × IsPrefix y.later es × (of_session x.number es ≡ of_session x.number x.later) × (of_session y.number es ≡ of_session y.number y.later)

  first : length y.later ≤ length x.later → Both x.later
  unfolding Both
  first le = let t = prefix_shorter y.later x.later later py px le in (px, prefix_refl x.later, t, refl, own-between y.number y.later x.later later t px oy)

  second : length x.later < length y.later → Both y.later
  unfolding Both
  second lt = let t = prefix_shorter x.later y.later later px py (omega arith) in (py, t, prefix_refl y.later, own-between x.number x.later y.later later t py ox, refl)

  either_way : Both (longer x.later y.later)
  either_way = dite (dec_le (length y.later) (length x.later))
      (λ le. subst (λ (b : Bool). Both (if b then y.later else x.later)) (sym (le-ltb (length x.later) (length y.later) le)) (first le))
      (λ no. subst (λ (b : Bool). Both (if b then y.later else x.later)) (sym (lt-ltb (length x.later) (length y.later) (omega arith))) (second (omega arith)))

  pub both : IsPrefix (longer x.later y.later) later × Agree x y
  unfolding Both
  both = let t = either_way in (t.0, record { first = t.1; second = t.2; first_own = t.3; second_own = t.4 })

module _ (key : Charter) where
  -- the whole view goes to a new seat
  pub moves : (id : ℕ) (xs : List Member) → Splits (Gated key) id (Sessions key xs) Spent (Sessions key xs)
  moves id xs s gated at = let v : View = Sessions key xs in let r = running key s gated id v at (omega arith) in let mine = r.each_seat id v at in let j₀ : ℕ = length s.views in
      let owner' : ℕ → ℕ = λ k. either (eqb (r.owner k) id) j₀ (r.owner k) in
      inr (inr (cuts key s r id v Spent v at (λ e. absurd (omega arith)) owner' (λ k small ne. ap (λ b. either b j₀ (r.owner k)) (ne_eqb (r.owner k) id ne)) tt
      (refl, fits_goes key r.now r.owner owner' id j₀ (λ k small here. ap (λ b. either b j₀ (r.owner k)) (eq-eqb (r.owner k) id here)) xs mine.1)))

  abbrev two_of : Member → Member → View → Member × Member
  two_of a b (Sessions c (x ∷ y ∷ is)) = (x, y)
  two_of a b v = (a, b)

  pub looks_two : (slots id : ℕ) (x y : Member) → Allows (Gated key) slots id (Sessions key (x ∷ y ∷ []), []) 0 (λ k. k) (looked (step slots 0 0 0 maybe.none) (Sessions key (x ∷ y ∷ []), []))
  looks_two slots id x y s gated deep at small = let v : View = Sessions key (x ∷ y ∷ []) in let r = running key s gated id v at (omega arith) in let mine = (r.each_seat id v at).1 in (
    v,
    keeps,
    tt,
    subst (Gated key) (sym (same_state s id [] v at)) gated,
    (
      refl,
      λ c a b e. subst (λ (z : Member × Member). Agree z.0 z.1) (λ k. two_of x y (e k)) (both x y r.now.later mine.0.front mine.2.0.front mine.0.own mine.2.0.own).1,
    ),
  )

  -- one session each again
  pub parts : (id : ℕ) (x y : Member) → Splits (Gated key) id (Sessions key (x ∷ y ∷ [])) (Sessions key (member x.number (both_know x y) ∷ [])) (Sessions key (member y.number (both_know x y) ∷ []))
  parts id x y s gated at = let v : View = Sessions key (x ∷ y ∷ []) in let now : Stretch = both_know x y in let r = running key s gated id v at (omega arith) in let mine = (r.each_seat id v at).1 in
      let j₀ : ℕ = length s.views in let owner' = goes_to key y.number j₀ r.owner in let t = both x y r.now.later mine.0.front mine.2.0.front mine.0.own mine.2.0.own in
      let apart : x.number ≢ y.number = λ e. mine.1.0 (sym e) in
      let one = mine.0.less in let two = mine.2.0.less in let less : now.forgotten ≤ r.now.forgotten = omega arith in
      inr (inr (cuts key s r id v (Sessions key (member x.number now ∷ [])) (Sessions key (member y.number now ∷ [])) at (λ e. absurd (omega arith)) owner'
      (λ m small ne. goes_miss key y.number j₀ r.owner m (λ e. ne (ap r.owner e ∙ mine.2.0.here)))
      (refl, (record { known = mine.0.known; here = goes_miss key y.number j₀ r.owner x.number apart ∙ mine.0.here; front = t.0; own = t.1.first_own ∙ mine.0.own; less = less }, tt, tt))
      (refl, (record { known = mine.2.0.known; here = goes_hit key y.number j₀ r.owner y.number refl; front = t.0; own = t.1.second_own ∙ mine.2.0.own; less = less }, tt, tt))))

  -- what the seat has after the join
  pub joined_as : (mine theirs whole now : Seat) (x y : Member) → mine ≡ seated key x → theirs ≡ seated key y → whole ≡ (theirs.0, []) → now ≡ (both_of mine.0 whole.0, mine.1) → now ≡ (Sessions key (x ∷ y ∷ []), [])
  joined_as mine theirs whole now x y a b is did = did ∙ (λ k. (both_of (a k).0 ((is ∙ (λ j. ((b j).0, []))) k).0, (a k).1))

-- two sessions that met have seen as much as either
pub met_counts : (v w v' w' : View) (a b : ℕ) → Meets v w v' w' → a ≤ length (history v) → b ≤ length (history w) → (a ≤ length (history v')) × (b ≤ length (history v')) × (a ≤ length (history w')) × (b ≤ length (history w'))
met_counts v w v' w' a b met x y = let p = ap (λ (xs : List Entry). length xs) met.first.1 in let q = ap (λ (xs : List Entry). length xs) met.second.1 in let r = ap (λ (xs : List Entry). length xs) met.same in
    let m = length-append (history v) met.first.0 in let n = length-append (history w) met.second.0 in (omega arith, omega arith, omega arith, omega arith)
