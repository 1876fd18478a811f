-- A shortest way makes no more than one object: integrity only falls on its way, so what is handed on later could be
-- handed on at once.
use Rattle.std.proofs.Common.{◌≡◌, ℕ, suc, ◌<◌, Bool, true, false, not, List, [], ◌∷◌, length, Option, refl, subst, arith}
use Rattle.std.specs.FinMap as map
use Rattle.mls_labels.specs.Label.{Label}
use Rattle.mls_state.specs.State.{State, is_above}
use Rattle.mls_laws.proofs.Laws.{above_trans}
use Rattle.mls_futures.proofs.Laws.{got_qualifies}
use Rattle.mls_flows.specs.declared.place.Place.{Place}
use Rattle.mls_flows.specs.declared.place.Place.TheVariants.{Subject, Object}
use Rattle.mls_flows.proofs.Laws.{altered_below, observed_above}
use Rattle.mls_paths.specs.Found.{ComesIn, here, on}
use Rattle.mls_paths.specs.Hands.{IsHand}
use Rattle.mls_paths.specs.Ways.{LeadsOn, IsShortest}
use Rattle.mls_paths.specs.declared.reached.Hand.{Hand}
use Rattle.mls_paths.specs.declared.reached.Hand.TheVariants.{By, Made}
use Rattle.mls_paths.specs.declared.reached.Hop.{Hop}
use Rattle.mls_flow_ways.specs.Carries.{makes, makes_once}

-- a hand before others
comes_behind : (R : Place → Hand → Place → Type 0) (q m p : Place) (h : Hand) (n : ℕ) → R q h m → ComesIn R m n p → ComesIn R q (suc n) p
comes_behind R q m p h n hand here = on 0 q m h hand here
comes_behind R q m p h n hand (on k a b g step rest) = on (suc k) a b g step (comes_behind R q m a h k hand rest)

-- hops are a way of their length
comes_by : (R : Place → Hand → Place → Type 0) (q p : Place) (hops : List Hop) → LeadsOn R q hops p → ComesIn R q (length hops) p
comes_by R q p [] is = subst (λ m. ComesIn R q 0 m) is here
comes_by R q p (hop ∷ hops) leads = comes_behind R q hop.place p hop.hand (length hops) leads.0 (comes_by R hop.place p hops leads.1)

-- there is a way of fewer hands
record IsLess (R : Place → Hand → Place → Type 0) (q p : Place) (most : ℕ) : Type 0 where
  pub count : ℕ
  pub way : ComesIn R q count p
  pub less : count < most

less_behind : (R : Place → Hand → Place → Type 0) (q m p : Place) (h : Hand) (most : ℕ) → R q h m → IsLess R m p most → IsLess R q p (suc most)
less_behind R q m p h most hand found =
    let less = found.less in
    record { count = suc found.count; way = comes_behind R q m p h found.count hand found.way; less = omega (arith, less) }

-- the integrity label of a place
abbrev integrity_at : State → Place → Option Label
integrity_at v (Subject s) = map.get v.subject_integrity s
integrity_at v (Object o) = map.get v.object_integrity o

module _ (v : State) (acts : ℕ → Bool) (room : Bool) where
  -- it falls by each hand
  sinks : (e : Option Label) (q p : Place) (h : Hand) → is_above e (integrity_at v q) ≡ true → IsHand v acts room q h p → is_above e (integrity_at v p) ≡ true
  sinks e (Object o) (Subject s) (By x) above hand =
      above_trans e (map.get v.object_integrity o) (map.get v.subject_integrity s) above
      (observed_above (map.get v.subject_integrity s) (map.get v.object_integrity o) x hand.0 ((got_qualifies v acts s o x hand.1).integrity))
  sinks e (Subject s) (Object o) (By x) above hand =
      above_trans e (map.get v.subject_integrity s) (map.get v.object_integrity o) above
      (altered_below (map.get v.subject_integrity s) (map.get v.object_integrity o) x hand.0 ((got_qualifies v acts s o x hand.1).integrity))
  sinks e (Subject s) (Subject t) (Made maker parent) above hand = above_trans e (map.get v.subject_integrity s) (map.get v.subject_integrity t) above hand.lower
  sinks e (Subject s) (Subject t) (By x) above hand = absurd hand
  sinks e (Object o) (Object p) (By x) above hand = absurd hand
  sinks e (Object o) p (Made maker parent) above hand = absurd hand
  sinks e (Subject s) (Object o) (Made maker parent) above hand = absurd hand

  -- who acts and has integrity above that of a place could hand on at once what is handed on later
  at_once : (s : ℕ) (q p : Place) (hops : List Hop) → acts s ≡ true → is_above (map.get v.subject_integrity s) (integrity_at v q) ≡ true → LeadsOn (IsHand v acts room) q hops p
      → makes hops ≡ true → IsLess (IsHand v acts room) (Subject s) p (suc (length hops))
  at_once s q p [] hands above leads some = cc
  at_once s q p (hop ∷ hops) hands above leads some =
      from (λ m over rest more. at_once s m p hops hands over rest more) hop.hand hop.place leads.0 leads.1 some where
        Later : Type 0
        Later = (m : Place) → is_above (map.get v.subject_integrity s) (integrity_at v m) ≡ true → LeadsOn (IsHand v acts room) m hops p → makes hops ≡ true
            → IsLess (IsHand v acts room) (Subject s) p (suc (length hops))

        made : (q m : Place) (maker parent : ℕ) → is_above (map.get v.subject_integrity s) (integrity_at v q) ≡ true → IsHand v acts room q (Made maker parent) m
            → LeadsOn (IsHand v acts room) m hops p → IsLess (IsHand v acts room) (Subject s) p (suc (suc (length hops)))
        made (Subject a) (Subject t) maker parent over hand rest = record {
          count = suc (length hops);
          way = comes_behind (IsHand v acts room) (Subject s) (Subject t) p (Made maker parent) (length hops) (record {
            free = hand.free;
            hands = hands;
            lower = above_trans (map.get v.subject_integrity s) (map.get v.subject_integrity a) (map.get v.subject_integrity t) over hand.lower;
            takes = hand.takes;
          }) (comes_by (IsHand v acts room) (Subject t) p hops rest);
          less = omega arith;
        }
        made (Subject a) (Object o) maker parent over hand rest = absurd hand
        made (Object o) m maker parent over hand rest = absurd hand

        from : Later → (h : Hand) (m : Place) → IsHand v acts room q h m → LeadsOn (IsHand v acts room) m hops p → makes (record { hand = h; place = m } ∷ hops) ≡ true
            → IsLess (IsHand v acts room) (Subject s) p (suc (suc (length hops)))
        from later (By x) m hand rest more =
            let found = later m (sinks (map.get v.subject_integrity s) q m (By x) above hand) rest more in
            let less = found.less in
            record { count = found.count; way = found.way; less = omega (arith, less) }
        from later (Made maker parent) m hand rest more = made q m maker parent above hand rest

  -- a way that makes more than one object isn't a shortest one
  shorter : (q p : Place) (hops : List Hop) → LeadsOn (IsHand v acts room) q hops p → makes_once hops ≡ false → IsLess (IsHand v acts room) q p (length hops)
  shorter q p [] leads more = cc
  shorter q p (hop ∷ hops) leads more = from (λ m rest less. shorter m p hops rest less) q hop.hand hop.place leads.0 leads.1 more where
    Later : Type 0
    Later = (m : Place) → LeadsOn (IsHand v acts room) m hops p → makes_once hops ≡ false → IsLess (IsHand v acts room) m p (length hops)

    some : (b : Bool) → not b ≡ false → b ≡ true
    some true is = refl
    some false is = cc

    from : Later → (q : Place) (h : Hand) (m : Place) → IsHand v acts room q h m → LeadsOn (IsHand v acts room) m hops p
        → makes_once (record { hand = h; place = m } ∷ hops) ≡ false → IsLess (IsHand v acts room) q p (suc (length hops))
    from later q (By x) m hand rest less = less_behind (IsHand v acts room) q m p (By x) (length hops) hand (later m rest less)
    from later (Subject s) (Made maker parent) (Subject t) hand rest less = at_once s (Subject t) p hops hand.hands hand.lower rest (some (makes hops) less)
    from later (Subject s) (Made maker parent) (Object o) hand rest less = absurd hand
    from later (Object o) (Made maker parent) m hand rest less = absurd hand

  pub shortest_once : (q p : Place) (hops : List Hop) → IsShortest (IsHand v acts room) q hops p → makes_once hops ≡ true
  shortest_once q p hops way = from (makes_once hops) refl where
    from : (b : Bool) → makes_once hops ≡ b → makes_once hops ≡ true
    from true is = is
    from false is =
        let found = shorter q p hops way.leads is in
        let less = found.less in
        let most = way.least found.count found.way in
        absurd (omega (arith, less, most))
