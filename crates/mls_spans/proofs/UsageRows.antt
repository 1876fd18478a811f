-- What is given of those of some accesses that pass a test.
use Rattle.std.proofs.Common.{◌≡◌, ℕ, zero, suc, ◌+◌, ◌<◌, ◌≤◌, Bool, true, false, cond, List, [], ◌∷◌, ◌++◌, map, refl, sym, ap, ◌∙◌, append-nil, arith}
use Rattle.std.specs.Prelude.{filter}
use Rattle.std.specs.List.{flat_map, range_with_len}
use Rattle.std.proofs.lemmas.List.{append_assoc, map-append}
use Rattle.std.proofs.lemmas.List.Concat.{flat_map-cons}
use Rattle.std.proofs.lemmas.List.Elements.{filter-append}
use Rattle.mls_facts.proofs.Gathered.{range_flat_more}
use Rattle.mls_state.specs.State.{State, is_subject}
use Rattle.mls_tables.specs.Triples.{Triple}
use Rattle.mls_tables.specs.declared.limits.TheConstants.{MAX_OBJECTS, MAX_SUBJECTS}
use Rattle.mls_tables.specs.declared.mode.Mode.TheVariants.{Execute, Read, Append, Write}
use Rattle.mls_spans.specs.Uses.{accesses_on, accesses_by, all_accesses}

-- lists that agree for the numbers of a range
flat_same : {Y : Type 0} (f g : ℕ → List Y) (a n : ℕ) → ((c : ℕ) → c < a + n → f c ≡ g c)
    → flat_map f (range_with_len a n) ≡ flat_map g (range_with_len a n)
flat_same f g a zero same = refl
flat_same f g a (suc n) same =
    let first : f a ≡ g a = same a (omega arith) in
    let rest : flat_map f (range_with_len (a + 1) n) ≡ flat_map g (range_with_len (a + 1) n) =
    flat_same f g (a + 1) n (λ c high. same c (omega (arith, high))) in
    flat_map-cons f a (range_with_len (a + 1) n) ∙ (λ i. first i ++ rest i) ∙ sym (flat_map-cons g a (range_with_len (a + 1) n))

module _ {Y : Type 0} (p : Triple → Bool) (u : Triple → Y) where
  abbrev rows : List Triple → List Y
  rows ts = map u (filter p ts)

  abbrev one : Triple → List Y
  one t = cond (p t) (u t ∷ []) []

  split : (t : Triple) (ts : List Triple) (b : Bool) → map u (cond b (t ∷ filter p ts) (filter p ts)) ≡ cond b (u t ∷ rows ts) (rows ts)
  split t ts true = refl
  split t ts false = refl

  first_by : (t : Triple) (ts : List Triple) (b : Bool) → map u (cond b (t ∷ filter p ts) (filter p ts)) ≡ cond b (u t ∷ []) [] ++ rows ts
  first_by t ts true = refl
  first_by t ts false = refl

  first_of : (t : Triple) (ts : List Triple) → rows (t ∷ ts) ≡ one t ++ rows ts
  first_of t ts = first_by t ts (p t)

  rows-append : (ts more : List Triple) → rows (ts ++ more) ≡ rows ts ++ rows more
  rows-append ts more = ap (map u) (filter-append p ts more) ∙ map-append u (filter p ts) (filter p more)

  -- what is given of four accesses, one after the other
  pub four_rows : (s o : ℕ) (r0 r1 r2 r3 r4 : List Y) → r1 ≡ r0 ++ one (s, o, Execute) → r2 ≡ r1 ++ one (s, o, Read)
      → r3 ≡ r2 ++ one (s, o, Append) → r4 ≡ r3 ++ one (s, o, Write) → r4 ≡ r0 ++ rows (accesses_on s o)
  four_rows s o r0 r1 r2 r3 r4 e1 e2 e3 e4 =
      let a : Triple = (s, o, Execute) in
      let b : Triple = (s, o, Read) in
      let c : Triple = (s, o, Append) in
      let d : Triple = (s, o, Write) in
      let A = one a in
      let B = one b in
      let C = one c in
      let D = one d in
      e4 ∙ ap (λ k. k ++ D) (e3 ∙ ap (λ k. k ++ C) (e2 ∙ ap (λ k. k ++ B) e1))
      ∙ append_assoc ((r0 ++ A) ++ B) C D ∙ append_assoc (r0 ++ A) B (C ++ D) ∙ append_assoc r0 A (B ++ (C ++ D))
      ∙ ap (λ k. r0 ++ k) (sym (first_of a (b ∷ c ∷ d ∷ [])
      ∙ ap (λ k. A ++ k) (first_of b (c ∷ d ∷ [])
      ∙ ap (λ k. B ++ k) (first_of c (d ∷ [])
      ∙ ap (λ k. C ++ k) (first_of d [] ∙ append-nil D)))))

  -- what is given for one number more
  pub rows_more : (f : ℕ → List Triple) (n : ℕ) (r0 now new : List Y) → now ≡ r0 ++ rows (flat_map f (range_with_len 0 n))
      → new ≡ now ++ rows (f n) → new ≡ r0 ++ rows (flat_map f (range_with_len 0 (n + 1)))
  rows_more f n r0 now new so_far added =
      let before = flat_map f (range_with_len 0 n) in
      added ∙ ap (λ k. k ++ rows (f n)) so_far ∙ append_assoc r0 (rows before) (rows (f n))
      ∙ ap (λ k. r0 ++ k) (sym (ap rows (range_flat_more f n) ∙ rows-append before (f n)))

  rows_flat : {X : Type 0} (f : X → List Triple) (xs : List X) → rows (flat_map f xs) ≡ flat_map (λ x. rows (f x)) xs
  rows_flat f [] = refl
  rows_flat f (x ∷ xs) =
      ap rows (flat_map-cons f x xs) ∙ rows-append (f x) (flat_map f xs) ∙ ap (λ k. rows (f x) ++ k) (rows_flat f xs)
      ∙ sym (flat_map-cons (λ y. rows (f y)) x xs)

-- tests that agree and what is given alike, of all accesses
module _ {Y : Type 0} (p q : Triple → Bool) (u w : Triple → Y) (small : ℕ) (fits : MAX_OBJECTS ≤ small)
    (tests : (t : Triple) → t.1 < small → p t ≡ q t) (gives : (t : Triple) → t.1 < small → u t ≡ w t) where
  one_same : (t : Triple) (ts : List Triple) → t.1 < small → rows p u ts ≡ rows q w ts → rows p u (t ∷ ts) ≡ rows q w (t ∷ ts)
  one_same t ts below rest =
      split p u t ts (p t) ∙ (λ i. cond (tests t below i) (gives t below i ∷ rest i) (rest i)) ∙ sym (split q w t ts (q t))

  object_same : (s o : ℕ) → o < small → rows p u (accesses_on s o) ≡ rows q w (accesses_on s o)
  object_same s o below =
      one_same (s, o, Execute) ((s, o, Read) ∷ (s, o, Append) ∷ (s, o, Write) ∷ []) below
      (one_same (s, o, Read) ((s, o, Append) ∷ (s, o, Write) ∷ []) below
      (one_same (s, o, Append) ((s, o, Write) ∷ []) below (one_same (s, o, Write) [] below refl)))

  objects_same : (s : ℕ) → rows p u (flat_map (accesses_on s) (range_with_len 0 MAX_OBJECTS))
      ≡ rows q w (flat_map (accesses_on s) (range_with_len 0 MAX_OBJECTS))
  objects_same s =
      rows_flat p u (accesses_on s) (range_with_len 0 MAX_OBJECTS)
      ∙ flat_same (λ o. rows p u (accesses_on s o)) (λ o. rows q w (accesses_on s o)) 0 MAX_OBJECTS (λ o high. object_same s o (omega (arith, high, fits)))
      ∙ sym (rows_flat q w (accesses_on s) (range_with_len 0 MAX_OBJECTS))

  known_same : (b : Bool) (s : ℕ) → rows p u (cond b (flat_map (accesses_on s) (range_with_len 0 MAX_OBJECTS)) [])
      ≡ rows q w (cond b (flat_map (accesses_on s) (range_with_len 0 MAX_OBJECTS)) [])
  known_same true s = objects_same s
  known_same false s = refl

  subject_same : (v : State) (s : ℕ) → rows p u (accesses_by v s) ≡ rows q w (accesses_by v s)
  unfolding accesses_by
  subject_same v s = known_same (is_subject v s) s

  pub all_same : (v : State) → rows p u (all_accesses v) ≡ rows q w (all_accesses v)
  all_same v =
      rows_flat p u (accesses_by v) (range_with_len 0 MAX_SUBJECTS)
      ∙ flat_same (λ s. rows p u (accesses_by v s)) (λ s. rows q w (accesses_by v s)) 0 MAX_SUBJECTS (λ s high. subject_same v s)
      ∙ sym (rows_flat q w (accesses_by v) (range_with_len 0 MAX_SUBJECTS))
