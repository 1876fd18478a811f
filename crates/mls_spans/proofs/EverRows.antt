-- The permissions on an object, one subject more at a time, and what is given alike of all of them.
use Rattle.std.proofs.Common.{◌≡◌, ℕ, zero, suc, ◌+◌, ◌<◌, ◌≤◌, Bool, true, false, cond, List, [], ◌∷◌, ◌++◌, refl, sym, ap, subst, ◌∙◌, append-nil, arith}
use Rattle.std.specs.Prelude.{◌||◌, filter}
use Rattle.std.specs.FinSet as set
use Rattle.std.specs.List.{All, flat_map, list_any, range_with_len}
use Rattle.std.proofs.lemmas.List.{append_assoc}
use Rattle.std.proofs.lemmas.List.Concat.{flat_map-cons}
use Rattle.std.proofs.lemmas.List.Elements.{All-append, All-cons, All-filter, All-nil, All-head, All-tail, filter-append}
use Rattle.mls_facts.proofs.Gathered.{range_flat_more}
use Rattle.mls_state.specs.State.{State, is_subject}
use Rattle.mls_tables.specs.Mode.{ModeSet}
use Rattle.mls_tables.specs.Triples.{Triple}
use Rattle.mls_tables.specs.declared.limits.TheConstants.{MAX_SUBJECTS}
use Rattle.mls_tables.specs.declared.mode.Mode.TheVariants.{Execute, Read, Append, Write}
use Rattle.mls_spans.specs.Permissions.{accesses_of, accesses_to}
use Rattle.mls_spans.specs.Uses.{accesses_on}

module _ (p : Triple → Bool) (asked : ModeSet) where
  -- an access is of a mode that is asked for
  abbrev of_asked : Triple → Bool
  of_asked t = set.contains asked t.2

  abbrev both : List Triple → List Triple
  both ts = filter p (filter of_asked ts)

  both-append : (xs ys : List Triple) → both (xs ++ ys) ≡ both xs ++ both ys
  both-append xs ys = ap (filter p) (filter-append of_asked xs ys) ∙ filter-append p (filter of_asked xs) (filter of_asked ys)

  -- the permissions of four accesses, one after the other
  four_modes : (s o : ℕ) (r0 r1 r2 r3 r4 : List Triple) → r1 ≡ r0 ++ both ((s, o, Execute) ∷ []) → r2 ≡ r1 ++ both ((s, o, Read) ∷ [])
      → r3 ≡ r2 ++ both ((s, o, Append) ∷ []) → r4 ≡ r3 ++ both ((s, o, Write) ∷ []) → r4 ≡ r0 ++ both (accesses_on s o)
  four_modes s o r0 r1 r2 r3 r4 e1 e2 e3 e4 =
      let a : Triple = (s, o, Execute) in
      let b : Triple = (s, o, Read) in
      let c : Triple = (s, o, Append) in
      let d : Triple = (s, o, Write) in
      let A = both (a ∷ []) in
      let B = both (b ∷ []) in
      let C = both (c ∷ []) in
      let D = both (d ∷ []) in
      e4 ∙ ap (λ k. k ++ D) (e3 ∙ ap (λ k. k ++ C) (e2 ∙ ap (λ k. k ++ B) e1))
      ∙ append_assoc ((r0 ++ A) ++ B) C D ∙ append_assoc (r0 ++ A) B (C ++ D) ∙ append_assoc r0 A (B ++ (C ++ D))
      ∙ ap (λ k. r0 ++ k) (sym (both-append (a ∷ []) (b ∷ c ∷ d ∷ [])
      ∙ ap (λ k. A ++ k) (both-append (b ∷ []) (c ∷ d ∷ []) ∙ ap (λ k. B ++ k) (both-append (c ∷ []) (d ∷ [])))))

  pub of_known : (v : State) (s o : ℕ) (r0 r1 r2 r3 r4 : List Triple) → is_subject v s ≡ true → r1 ≡ r0 ++ both ((s, o, Execute) ∷ [])
      → r2 ≡ r1 ++ both ((s, o, Read) ∷ []) → r3 ≡ r2 ++ both ((s, o, Append) ∷ []) → r4 ≡ r3 ++ both ((s, o, Write) ∷ [])
      → r4 ≡ r0 ++ filter p (accesses_of v asked o s)
  unfolding accesses_of
  of_known v s o r0 r1 r2 r3 r4 known e1 e2 e3 e4 =
      four_modes s o r0 r1 r2 r3 r4 e1 e2 e3 e4
      ∙ ap (λ b. r0 ++ filter p (cond b (filter of_asked (accesses_on s o)) [])) (sym known)

  pub of_unknown : (v : State) (s o : ℕ) (rows : List Triple) → is_subject v s ≡ false → rows ≡ rows ++ filter p (accesses_of v asked o s)
  unfolding accesses_of
  of_unknown v s o rows unknown =
      sym (append-nil rows) ∙ ap (λ b. rows ++ filter p (cond b (filter of_asked (accesses_on s o)) [])) (sym unknown)

  -- the permissions of one subject more
  pub subject_more : (v : State) (o s : ℕ) (now new : List Triple)
      → now ≡ filter p (flat_map (accesses_of v asked o) (range_with_len 0 s)) → new ≡ now ++ filter p (accesses_of v asked o s)
      → new ≡ filter p (flat_map (accesses_of v asked o) (range_with_len 0 (s + 1)))
  subject_more v o s now new so_far added =
      added ∙ ap (λ k. k ++ filter p (accesses_of v asked o s)) so_far
      ∙ sym (ap (filter p) (range_flat_more (accesses_of v asked o) s)
      ∙ filter-append p (flat_map (accesses_of v asked o) (range_with_len 0 s)) (accesses_of v asked o s))

-- an access of a subject that there can be, to an object
abbrev pub IsTo : ℕ → Triple → Type 0
IsTo o t = (t.1 ≡ o) × (t.0 < MAX_SUBJECTS)

module _ (v : State) (asked : ModeSet) (o : ℕ) where
  one_to : (b : Bool) (s : ℕ) → s < MAX_SUBJECTS → All (IsTo o) (cond b (filter (λ t. set.contains asked t.2) (accesses_on s o)) [])
  one_to true s small =
      All-filter (λ t. set.contains asked t.2) (IsTo o) (accesses_on s o)
      (All-cons (IsTo o) (s, o, Execute) ((s, o, Read) ∷ (s, o, Append) ∷ (s, o, Write) ∷ []) (refl, small)
      (All-cons (IsTo o) (s, o, Read) ((s, o, Append) ∷ (s, o, Write) ∷ []) (refl, small)
      (All-cons (IsTo o) (s, o, Append) ((s, o, Write) ∷ []) (refl, small)
      (All-cons (IsTo o) (s, o, Write) [] (refl, small) (All-nil (IsTo o))))))
  one_to false s small = All-nil (IsTo o)

  subject_to : (s : ℕ) → s < MAX_SUBJECTS → All (IsTo o) (accesses_of v asked o s)
  unfolding accesses_of
  subject_to s small = one_to (is_subject v s) s small

  each_to : (a n : ℕ) → a + n ≤ MAX_SUBJECTS → All (IsTo o) (flat_map (accesses_of v asked o) (range_with_len a n))
  each_to a zero high = All-nil (IsTo o)
  each_to a (suc n) high =
      subst (All (IsTo o)) (sym (flat_map-cons (accesses_of v asked o) a (range_with_len (a + 1) n)))
      (All-append (IsTo o) (accesses_of v asked o a) (flat_map (accesses_of v asked o) (range_with_len (a + 1) n))
      (subject_to a small) (each_to (a + 1) n rest)) where
        small : a < MAX_SUBJECTS
        small = grind (arith, high)

        rest : (a + 1) + n ≤ MAX_SUBJECTS
        rest = grind (arith, high)

  -- all accesses to an object are such ones
  pub all_to : All (IsTo o) (accesses_to v asked o)
  all_to = each_to 0 MAX_SUBJECTS (omega arith)

module _ (P : Triple → Type 0) where
  -- tests, lists and texts that are the same of each
  pub filter_alike : (p q : Triple → Bool) (ts : List Triple) → All P ts → ((t : Triple) → P t → p t ≡ q t) → filter p ts ≡ filter q ts
  filter_alike p q [] each same = refl
  filter_alike p q (t ∷ ts) each same =
      λ i. cond (same t (All-head P t ts each) i) (t ∷ filter_alike p q ts (All-tail P t ts each) same i) (filter_alike p q ts (All-tail P t ts each) same i)

  pub any_alike : (p q : Triple → Bool) (ts : List Triple) → All P ts → ((t : Triple) → P t → p t ≡ q t) → list_any p ts ≡ list_any q ts
  any_alike p q [] each same = refl
  any_alike p q (t ∷ ts) each same = λ i. same t (All-head P t ts each) i || any_alike p q ts (All-tail P t ts each) same i

  pub flat_alike : (f g : Triple → List ℕ) (ts : List Triple) → All P ts → ((t : Triple) → P t → f t ≡ g t) → flat_map f ts ≡ flat_map g ts
  flat_alike f g [] each same = refl
  flat_alike f g (t ∷ ts) each same =
      flat_map-cons f t ts ∙ (λ i. same t (All-head P t ts each) i ++ flat_alike f g ts (All-tail P t ts each) same i) ∙ sym (flat_map-cons g t ts)
