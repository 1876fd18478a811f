-- Objects that are made, so that content is handed on through them.
use Rattle.std.proofs.Common.{◌≡◌, ℕ, ◌<◌, Bool, true, ◌⊎◌, inl, inr, Some, List, [], ◌∷◌, ◌++◌, refl, sym, ap, subst, ◌∙◌, arith}
use Rattle.std.proofs.lemmas.Bool.{and_parts}
use Rattle.std.proofs.lemmas.Bool.Decides.{nat_tests}
use Rattle.std.specs.FinMap as map
use Rattle.std.specs.FinSet as set
use Rattle.mls_labels.specs.Label.{Label, has_label}
use Rattle.mls_tables.specs.declared.limits.TheConstants.{MAX_OBJECTS}
use Rattle.mls_tables.specs.declared.mode.Mode.TheVariants.{Append, Read, Write}
use Rattle.mls_tables.proofs.Laws.{is_triple-itself}
use Rattle.mls_requests.specs.declared.request.Request.{Request}
use Rattle.mls_state.specs.State.{State, is_subject, is_active, is_above}
use Rattle.mls_state.specs.Properties.{IsSecure, HasWholeTables}
use Rattle.mls_state.specs.Changes.{with_object}
use Rattle.mls_rules.specs.Rules.{after}
use Rattle.mls_rules.proofs.Laws.{after_secure}
use Rattle.mls_laws.specs.NewObjects.{creates}
use Rattle.mls_futures.specs.Closure.{HasTrusted, Qualifies}
use Rattle.mls_futures.specs.Futures.{HasLabelsWithin, HoldsNothing}
use Rattle.mls_futures.proofs.Laws.{give, release, to_give, to_release, trusted_still, got_qualifies}
use Rattle.mls_ways.specs.Ways.{HoldsOnly, LeadsTo}
use Rattle.mls_paths.specs.Hands.{CouldMake, has_room}
use Rattle.mls_flows.specs.Arriving.{was, HasIntegrityWithin}
use Rattle.mls_flows.specs.Ways.{Way, ends, goes, Grown, IsBetween}
use Rattle.mls_flows.specs.declared.place.Place.TheVariants.{Subject}
use Rattle.mls_flows.proofs.Laws.{still_at, known_grown, between_made, IsWell, well_grown, controls_it, could_append, could_read, grant_made, is_made, keeps_made, grown_made, within_made, below_there, above_there}
use Rattle.mls_flow_ways.specs.Carries.{CarriesTo, IsBegun, IsMadeFor}
use Rattle.mls_flow_ways.proofs.Carried.{carries_then, carries_so, carries_step, carries_held}

room_of : (v : State) → has_room v ≡ true → v.next < MAX_OBJECTS
room_of v room = grind (arith, nat_tests, room)

-- an object is made below another one, which is written
module _ (acts : ℕ → Bool) (w : State) (maker p : ℕ) (l i : Label) (h : IsSecure w) (within : HasLabelsWithin w) (makes : acts maker ≡ true) (known : is_subject w maker ≡ true)
    (active : is_active w p ≡ true) (label : map.get w.object_label p ≡ Some l) (fits : is_above (map.get w.object_integrity p) (Some i) ≡ true)
    (bound : has_label w.integrity i ≡ true) (writes : set.contains w.accesses (maker, p, Write) ≡ true) (free : w.next < MAX_OBJECTS) where
  carries_made : (u : State) (old new : List Request) (s : ℕ) → u ≡ after w (creates maker p l i) → new ≡ old ++ creates maker p l i ∷ []
      → CarriesTo acts w u old new (Subject s) (Subject s) (λ z. z ≡ with_object w p l i)
  carries_made u old new s is added =
      subst (λ z. CarriesTo acts w z old new (Subject s) (Subject s) (λ x. x ≡ with_object w p l i)) (sym is) (record {
        way = way;
        added = added;
        grown = grown_made acts w maker p l i h within makes known active label fits bound writes free;
        secure = after_secure w (creates maker p l i) h;
        within = within_made acts w maker p l i h within makes known active label fits bound writes free;
        along = still_at acts w (after w (creates maker p l i)) way (Subject s) tt;
        now = is_made acts w maker p l i h within makes known active label fits bound writes free;
      }) where
        way : Way acts w (after w (creates maker p l i))
        way =
            goes (creates maker p l i) makes (grant_made acts w maker p l i h within makes known active label fits bound writes free)
            (keeps_made acts w maker p l i h within makes known active label fits bound writes free) ends

-- write of its parent is brought about before
module _ (acts : ℕ → Bool) (v : State) (h : IsSecure v) (whole : HasWholeTables v) (own : HasIntegrityWithin v) (s t maker p : ℕ)
    (could : CouldMake v acts (has_room v) s t maker p) where
  q : Qualifies v acts maker p Write
  q = got_qualifies v acts maker p Write could.takes.makes

  both : (is_subject v maker ≡ true) × (is_active v p ≡ true)
  both = and_parts (is_subject v maker) (is_active v p) q.known

  pub taker_known : is_subject v t ≡ true
  taker_known = sym (whole.subject_integrity t) ∙ below_there (map.get v.subject_integrity s) (map.get v.subject_integrity t) could.lower

  pub giver_known : is_subject v s ≡ true
  giver_known = sym (whole.subject_integrity s) ∙ above_there (map.get v.subject_integrity s) (map.get v.subject_integrity t) could.lower

  pub maker_known : is_subject v maker ≡ true
  maker_known = both.0

  pub parent_active : is_active v p ≡ true
  parent_active = both.1

  clears : (w : State) → Grown acts v w → (is_above (map.get w.maximum t) (map.get w.object_label p) ≡ true) ⊎ HasTrusted w acts
  clears w f = from could.takes.cleared (f.label p both.1) where
    from : (is_above (map.get v.maximum t) (map.get v.object_label p) ≡ true) ⊎ HasTrusted v acts
        → (map.get w.object_label p ≡ map.get v.object_label p) ⊎ HasTrusted v acts
        → (is_above (map.get w.maximum t) (map.get w.object_label p) ≡ true) ⊎ HasTrusted w acts
    from (inl above) (inl same) = inl ((λ i. is_above (map.get (f.maximum i) t) (same i)) ∙ above)
    from (inl above) (inr trusts) = inr (trusted_still acts v w f.trusted trusts)
    from (inr trusts) same = inr (trusted_still acts v w f.trusted trusts)

  pub carries_begun : (w u : State) (old mid new : List Request) (l i : Label) → LeadsTo acts v w old mid (HoldsOnly (maker, p, Write))
      → map.get w.object_label p ≡ Some l → map.get v.subject_integrity t ≡ Some i
      → u ≡ after w (creates maker p l i) → new ≡ mid ++ creates maker p l i ∷ []
      → CarriesTo acts v u old new (Subject s) (Subject s) (IsBegun acts s t maker p v.next)
  carries_begun w u old mid new l i first label integrity is added =
      carries_then acts v w u old mid new (Subject s) (Subject s) (Subject s) (λ z. HoldsOnly (maker, p, Write) z × (z.next ≡ v.next)) (IsBegun acts s t maker p v.next) held
      (carries_so acts w u mid new (Subject s) (Subject s) (λ z. z ≡ with_object w p l i) (IsBegun acts s t maker p v.next) begun
      (carries_made acts w maker p l i held.secure held.within q.actor (known_grown acts v w f maker both.0) (f.active p both.1) label fits
      (ap (λ b. has_label b i) f.bounds ∙ own t i integrity) (held.now.0 (maker, p, Write) ∙ is_triple-itself (maker, p, Write))
      (subst (λ n. n < MAX_OBJECTS) (sym held.now.1) (room_of v could.free)) u mid new s is added)) where
        held : CarriesTo acts v w old mid (Subject s) (Subject s) (λ z. HoldsOnly (maker, p, Write) z × (z.next ≡ v.next))
        held = carries_held acts v w old mid maker p Write (Subject s) (Subject s) h tt first (λ z has. was (Subject s) refl)

        f : Grown acts v w
        f = held.grown

        fits : is_above (map.get w.object_integrity p) (Some i) ≡ true
        fits = (λ j. is_above (f.integrity p both.1 j) (sym integrity j)) ∙ could.takes.fits

        begun : u ≡ with_object w p l i → IsBegun acts s t maker p v.next u
        begun made = (
          λ a. ap (λ (z : State). set.contains z.accesses a) made ∙ held.now.0 a,
          subst (IsBetween acts s t v.next p) (sym made) (subst (λ n. IsBetween acts s t n p (with_object w p l i)) held.now.1
              (between_made acts s t p w l i label ((λ j. is_above (map.get (f.subject_integrity j) s) (sym integrity j)) ∙ could.lower)
              (ap (λ m. map.get m t) f.subject_integrity ∙ integrity) (clears w f))),
        )

-- it is permitted to both, and its parent is released
module _ (acts : ℕ → Bool) (s t maker p n : ℕ) (hands : acts s ≡ true) (takes : acts t ≡ true) (makes : acts maker ≡ true) where
  pub carries_permitted : (w0 w1 w2 w3 : State) (n0 n1 n2 n3 : List Request) → IsWell acts s t maker p n hands takes makes w0 → HoldsOnly (maker, p, Write) w0 → is_active w0 p ≡ true
      → w1 ≡ after w0 (give maker s n Append) → n1 ≡ n0 ++ give maker s n Append ∷ []
      → w2 ≡ after w1 (give maker t n Read) → n2 ≡ n1 ++ give maker t n Read ∷ []
      → w3 ≡ after w2 (release maker p Write) → n3 ≡ n2 ++ release maker p Write ∷ []
      → CarriesTo acts w0 w3 n0 n3 (Subject s) (Subject s) (IsMadeFor acts s t n)
  carries_permitted w0 w1 w2 w3 n0 n1 n2 n3 k0 only active e1 a1 e2 a2 e3 a3 =
      carries_then acts w0 w1 w3 n0 n1 n3 (Subject s) (Subject s) (Subject s) (λ u. given1 u × (u.next ≡ w0.next)) (IsMadeFor acts s t n) c1
      (carries_then acts w1 w2 w3 n1 n2 n3 (Subject s) (Subject s) (Subject s) (λ u. given2 u × (u.next ≡ w1.next)) (IsMadeFor acts s t n) c2
      (carries_so acts w2 w3 n2 n3 (Subject s) (Subject s) (λ u. HoldsNothing u × (u.next ≡ w2.next)) (IsMadeFor acts s t n) for_both c3)) where
        given1 : State → Type 0
        given1 u = (u.accesses ≡ w0.accesses) × (set.contains u.matrix (s, n, Append) ≡ true)

        c1 : CarriesTo acts w0 w1 n0 n1 (Subject s) (Subject s) (λ u. given1 u × (u.next ≡ w0.next))
        c1 =
            carries_step acts w0 (give maker s n Append) w1 n0 n1 (Subject s) given1 k0.secure tt
            (to_give acts w0 k0.secure k0.within maker s n Append makes k0.making k0.giver k0.between.active
            (controls_it acts s t maker p n hands takes makes w0 k0 only)) e1 a1

        k1 : IsWell acts s t maker p n hands takes makes w1
        k1 = well_grown acts s t maker p n hands takes makes w0 w1 c1.grown c1.secure c1.within k0

        only1 : HoldsOnly (maker, p, Write) w1
        only1 a = ap (λ b. set.contains b a) c1.now.0.0 ∙ only a

        given2 : State → Type 0
        given2 u = (u.accesses ≡ w1.accesses) × (set.contains u.matrix (t, n, Read) ≡ true)

        c2 : CarriesTo acts w1 w2 n1 n2 (Subject s) (Subject s) (λ u. given2 u × (u.next ≡ w1.next))
        c2 =
            carries_step acts w1 (give maker t n Read) w2 n1 n2 (Subject s) given2 k1.secure tt
            (to_give acts w1 k1.secure k1.within maker t n Read makes k1.making k1.taker k1.between.active
            (controls_it acts s t maker p n hands takes makes w1 k1 only1)) e2 a2

        k2 : IsWell acts s t maker p n hands takes makes w2
        k2 = well_grown acts s t maker p n hands takes makes w1 w2 c2.grown c2.secure c2.within k1

        only2 : HoldsOnly (maker, p, Write) w2
        only2 a = ap (λ b. set.contains b a) c2.now.0.0 ∙ only1 a

        active2 : is_active w2 p ≡ true
        active2 = c2.grown.active p (c1.grown.active p active)

        c3 : CarriesTo acts w2 w3 n2 n3 (Subject s) (Subject s) (λ u. HoldsNothing u × (u.next ≡ w2.next))
        c3 =
            carries_step acts w2 (release maker p Write) w3 n2 n3 (Subject s) HoldsNothing k2.secure tt
            (to_release acts w2 k2.secure k2.within maker p Write makes k2.making active2 only2) e3 a3

        k3 : IsWell acts s t maker p n hands takes makes w3
        k3 = well_grown acts s t maker p n hands takes makes w2 w3 c3.grown c3.secure c3.within k2

        for_both : HoldsNothing w3 × (w3.next ≡ w2.next) → IsMadeFor acts s t n w3
        for_both now = record {
          nothing = now.0;
          appends = could_append acts s t maker p n hands takes makes w3 k3 (c3.grown.matrix (s, n, Append) (c2.grown.matrix (s, n, Append) c1.now.0.1));
          reads = could_read acts s t maker p n hands takes makes w3 k3 (c3.grown.matrix (t, n, Read) c2.now.0.1);
        }
