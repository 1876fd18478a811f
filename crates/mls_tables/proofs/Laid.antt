-- What a change of the memory of several lists leaves.
use Rattle.std.proofs.Common.{◌≡◌, ℕ, ◌+◌, ◌<◌, ◌≤◌, ◌⊎◌, inl, inr, List, [], ◌++◌, length, take, drop, map, get_or, set, sym, ap, subst, ◌∙◌, arith, length-append, length-drop, length-take, length-set, get_or-set_same, get_or-set_other}
use Rattle.std.proofs.lemmas.Bool.{cases_eq, cases_order}
use Rattle.std.proofs.lemmas.List.{get_or-map, take-append-le, drop-append-le, set-get_or}
use Rattle.mls_facts.proofs.Places.{map-set}
use Rattle.mls_tables.specs.declared.span.Span.{Span}
use Rattle.mls_tables.specs.Lists.{list_at, nowhere, AreApart, IsLaidOut, FindsRoom}

turned : (s t : Span) → AreApart s t → AreApart t s
turned s t (inl h) = inr h
turned s t (inr h) = inl h

module _ {X : Type 0} where
  -- a list stays where memory is added behind it
  list_at-more : (store more : List X) (s : Span) → s.start + s.len ≤ length store → list_at (store ++ more) s ≡ list_at store s
  list_at-more store more s within =
      let from : s.start ≤ length store = omega arith in
      let room : s.len ≤ length (drop s.start store) = omega (arith, length-drop s.start store) in
      ap (take s.len) (drop-append-le s.start store more from) ∙ take-append-le s.len (drop s.start store) more room

  module _ (spans : List Span) (store : List X) (laid : IsLaidOut spans store) (i : ℕ) (here : i < length spans) where
    abbrev at : ℕ → Span
    at j = get_or spans j nowhere

    others_apart : (j : ℕ) → j < length spans → (j ≡ i → ⊥) → AreApart (at i) (at j)
    others_apart j within other = from (cases_order i j) where
      from : (i ≡ j) ⊎ ((i < j) ⊎ (j < i)) → AreApart (at i) (at j)
      from (inl same) = absurd (other (sym same))
      from (inr (inl less)) = laid.apart i j less within
      from (inr (inr more)) = turned (at j) (at i) (laid.apart j i more here)

    module _ (after : List X) (t : Span) (longer : length store ≤ length after) (short : t.len ≤ t.room) (fits : t.start + t.room ≤ length after) (apart : (j : ℕ) → j < length spans → (j ≡ i → ⊥) → AreApart t (at j)) where
      abbrev now : ℕ → Span
      now j = get_or (set spans i t) j nowhere

      old : (j : ℕ) → j < length (set spans i t) → j < length spans
      old j h = omega (arith, length-set spans i t)

      own : (j : ℕ) → j ≡ i → now j ≡ t
      own j same = ap now same ∙ get_or-set_same spans i t nowhere here

      other_at : (j : ℕ) → (j ≡ i → ⊥) → now j ≡ at j
      other_at j other = get_or-set_other spans i j t nowhere other

      each : (P : Span → Type 0) → P t → (j : ℕ) → P (at j) → P (now j)
      each P new j kept = from (cases_eq j i) where
        from : (j ≡ i) ⊎ (j ≡ i → ⊥) → P (now j)
        from (inl same) = subst P (sym (own j same)) new
        from (inr other) = subst P (sym (other_at j other)) kept

      both : (j k : ℕ) → j < k → j < length spans → k < length spans → (j ≡ i) ⊎ (j ≡ i → ⊥) → (k ≡ i) ⊎ (k ≡ i → ⊥) → AreApart (now j) (now k)
      both j k less hj hk (inl a) (inl b) = absurd (omega arith)
      both j k less hj hk (inl a) (inr b) = rw (own j a, other_at k b) (apart k hk b)
      both j k less hj hk (inr a) (inl b) = rw (other_at j a, own k b) (turned t (at j) (apart j hj a))
      both j k less hj hk (inr a) (inr b) = rw (other_at j a, other_at k b) (laid.apart j k less hk)

      -- one stretch is another, which has no place in common with those of the other lists
      placed_laid : IsLaidOut (set spans i t) after
      placed_laid = record {
        short = λ j h. each (λ s. s.len ≤ s.room) short j (laid.short j (old j h));
        within = λ j h. each (λ s. s.start + s.room ≤ length after) fits j (let kept : (at j).start + (at j).room ≤ length store = laid.within j (old j h) in omega arith);
        apart = λ j k less h. let hk : k < length spans = old k h in both j k less (omega arith) hk (cases_eq j i) (cases_eq k i);
      }

    module _ (new : List X) (t : Span) (found : FindsRoom store new (at i) t) where
      grown : length store ≤ length new
      grown = let long : length new ≡ length store + length found.kept.0 = ap length found.kept.1 ∙ length-append store found.kept.0 in omega arith

      found_apart : (j : ℕ) → j < length spans → (j ≡ i → ⊥) → AreApart t (at j)
      found_apart j within other = from found.place where
        from : (t ≡ at i) ⊎ (length store ≤ t.start) → AreApart t (at j)
        from (inl same) = rw same (others_apart j within other)
        from (inr behind) = let fits : (at j).start + (at j).room ≤ length store = laid.within j within in inr (omega arith)

      -- a list that found room is laid out, and no list changes
      pub found_laid : IsLaidOut (set spans i t) new
      found_laid = placed_laid new t grown (let room : t.len < t.room = found.room in omega arith) found.within found_apart

      pub found_lists : map (list_at new) (set spans i t) ≡ map (list_at store) spans
      found_lists =
          map-set (list_at store) (list_at new) spans i t nowhere _ here (found.list ∙ sym (get_or-map (list_at store) spans i nowhere [] here)) kept
          ∙ set-get_or (map (list_at store) spans) i [] where
            kept : (j : ℕ) → j < length spans → (j ≡ i → ⊥) → list_at new (at j) ≡ list_at store (at j)
            kept j within other =
                let short : (at j).len ≤ (at j).room = laid.short j within in
                let fits : (at j).start + (at j).room ≤ length store = laid.within j within in
                ap (λ m. list_at m (at j)) found.kept.1 ∙ list_at-more store found.kept.0 (at j) (omega arith)

      -- and there is room
      pub found_room : length (get_or (map (list_at new) (set spans i t)) i []) < get_or (map (λ (s : Span). s.room) (set spans i t)) i 0
      found_room =
          let many : length (set spans i t) ≡ length spans = length-set spans i t in
          let inside : i < length (set spans i t) = omega arith in
          let read : get_or (set spans i t) i nowhere ≡ t = get_or-set_same spans i t nowhere here in
          let room : t.len < t.room = found.room in
          rw (get_or-map (list_at new) (set spans i t) i nowhere [] inside, get_or-map (λ (s : Span). s.room) (set spans i t) i nowhere 0 inside, read) (omega (arith, length-take t.len (drop t.start new)))

    module _ (s : Span) (is : s ≡ at i) where
      -- the list that lies in the stretch
      pub list_is : get_or (map (list_at store) spans) i [] ≡ list_at store s
      list_is = get_or-map (list_at store) spans i nowhere [] here ∙ ap (list_at store) (sym is)

      -- a place in a list is in its stretch
      pub list_short : (k : ℕ) → k ≤ length (get_or (map (list_at store) spans) i []) → k ≤ s.len
      list_short k within =
          let long : length (get_or (map (list_at store) spans) i []) ≡ length (list_at store s) = ap length list_is in
          omega (arith, length-take s.len (drop s.start store))

      -- where a list has room for one more, so has its stretch
      pub room_is : length (get_or (map (list_at store) spans) i []) < get_or (map (λ (u : Span). u.room) spans) i 0 → s.len < s.room
      room_is room =
          let short : s.len ≤ s.room = subst (λ u. u.len ≤ u.room) (sym is) (laid.short i here) in
          let fits : s.start + s.room ≤ length store = subst (λ u. u.start + u.room ≤ length store) (sym is) (laid.within i here) in
          let rooms : get_or (map (λ (u : Span). u.room) spans) i 0 ≡ s.room = get_or-map (λ (u : Span). u.room) spans i nowhere 0 here ∙ ap (λ (u : Span). u.room) (sym is) in
          let long : length (get_or (map (list_at store) spans) i []) ≡ length (list_at store s) = ap length list_is in
          omega (arith, length-take s.len (drop s.start store), length-drop s.start store)

      -- a list that changed within its stretch
      pub changed_laid : (after : List X) (t : Span) → length after ≡ length store → t.start ≡ s.start → t.room ≡ s.room → t.len ≤ s.room → IsLaidOut (set spans i t) after
      changed_laid after t long start room short =
          let fits : s.start + s.room ≤ length store = subst (λ u. u.start + u.room ≤ length store) (sym is) (laid.within i here) in
          placed_laid after t (omega arith) (omega arith) (omega arith) (λ j within other. from j (subst (λ u. AreApart u (at j)) (sym is) (others_apart j within other))) where
            from : (j : ℕ) → AreApart s (at j) → AreApart t (at j)
            from j (inl h) = inl (omega arith)
            from j (inr h) = inr (omega arith)

      pub changed_lists : (after : List X) (t : Span) (xs : List X) → list_at after t ≡ xs
          → ((u : Span) → u.start + u.len ≤ s.start → list_at after u ≡ list_at store u)
          → ((u : Span) → s.start + s.room ≤ u.start → list_at after u ≡ list_at store u)
          → map (list_at after) (set spans i t) ≡ set (map (list_at store) spans) i xs
      changed_lists after t xs new before behind = map-set (list_at store) (list_at after) spans i t nowhere xs here new kept where
        from : (u : Span) → u.len ≤ u.room → AreApart s u → list_at after u ≡ list_at store u
        from u short (inl later) = behind u later
        from u short (inr earlier) = before u (omega arith)

        kept : (j : ℕ) → j < length spans → (j ≡ i → ⊥) → list_at after (at j) ≡ list_at store (at j)
        kept j within other = from (at j) (laid.short j within) (subst (λ u. AreApart u (at j)) (sym is) (others_apart j within other))
