-- The spans that begin with a state.
use Rattle.std.proofs.Common.{◌≡◌, ℕ, ◌+◌, ◌<◌, Bool, true, false, cond, List, [], ◌∷◌, ◌++◌, length, get_or, take, map, None, refl, sym, ap, ◌∙◌, append-nil}
use Rattle.std.specs.Prelude.{filter, ◌||◌, ◌&&◌}
use Rattle.std.specs.FinSet as set
use Rattle.std.specs.List.{flat_map, range_with_len}
use Rattle.std.proofs.lemmas.List.{append_assoc, map-append}
use Rattle.std.proofs.lemmas.List.Concat.{flat_map-cons}
use Rattle.std.proofs.lemmas.List.Folds.{list_all-append}
use Rattle.mls_facts.proofs.Gathered.{flat_map_more, range_flat_more}
use Rattle.mls_facts.proofs.Ranges.{filter_range_none}
use Rattle.mls_state.specs.State.{State, is_subject}
use Rattle.mls_state.specs.Properties.{HasTree}
use Rattle.mls_state.specs.declared.table.Table.TheVariants.{Accesses}
use Rattle.mls_state.proofs.Laws.{unknown_subject}
use Rattle.mls_tables.specs.Held.{is_held as is_accessed, objects_of}
use Rattle.mls_tables.specs.Once.{accesses_at, by_subject}
use Rattle.mls_tables.specs.Rows.{listed}
use Rattle.mls_tables.specs.Triples.{Triple}
use Rattle.mls_tables.specs.declared.limits.TheConstants.{MAX_OBJECTS, MAX_SUBJECTS}
use Rattle.mls_tables.specs.declared.mode.Mode.TheVariants.{Execute, Read, Append, Write}
use Rattle.mls_spans.specs.Opening.{span_where, accesses_of}
use Rattle.mls_spans.specs.Spans.{span_of, span_from, opened}
use Rattle.mls_spans.specs.Sweeping.{stands}
use Rattle.std.specs.List.{list_all}
use Rattle.mls_spans.specs.declared.span.Span.{Span}

module _ (v : State) where
  -- the spans of the first of some accesses, where it is held, and of the others
  first_of : (t : Triple) (ts : List Triple)
      → map (span_from None v []) (filter (set.contains v.accesses) (t ∷ ts)) ≡ span_where v t ++ map (span_from None v []) (filter (set.contains v.accesses) ts)
  first_of t ts = elim (set.contains v.accesses t) as (λ b. map (span_from None v []) (cond b (t ∷ filter (set.contains v.accesses) ts) (filter (set.contains v.accesses) ts))
      ≡ cond b ((span_of t None None) ∷ []) [] ++ map (span_from None v []) (filter (set.contains v.accesses) ts)) [
        | true ↦ refl
        | false ↦ refl
      ]

  -- the spans of four accesses, one after the other
  pub four_begin : (s o : ℕ) (s0 s1 s2 s3 s4 : List Span) → s1 ≡ s0 ++ span_where v (s, o, Execute) → s2 ≡ s1 ++ span_where v (s, o, Read)
      → s3 ≡ s2 ++ span_where v (s, o, Append) → s4 ≡ s3 ++ span_where v (s, o, Write)
      → s4 ≡ s0 ++ map (span_from None v []) (accesses_at v.accesses s o)
  four_begin s o s0 s1 s2 s3 s4 e1 e2 e3 e4 =
      let a : Triple = (s, o, Execute) in
      let b : Triple = (s, o, Read) in
      let c : Triple = (s, o, Append) in
      let d : Triple = (s, o, Write) in
      let A = span_where v a in
      let B = span_where v b in
      let C = span_where v c in
      let D = span_where v d in
      e4 ∙ ap (λ k. k ++ D) (e3 ∙ ap (λ k. k ++ C) (e2 ∙ ap (λ k. k ++ B) e1))
      ∙ append_assoc ((s0 ++ A) ++ B) C D ∙ append_assoc (s0 ++ A) B (C ++ D) ∙ append_assoc s0 A (B ++ (C ++ D))
      ∙ ap (λ k. s0 ++ k) (sym (first_of a (b ∷ c ∷ d ∷ [])
      ∙ ap (λ k. A ++ k) (first_of b (c ∷ d ∷ [])
      ∙ ap (λ k. B ++ k) (first_of c (d ∷ [])
      ∙ ap (λ k. C ++ k) (first_of d [] ∙ append-nil D)))))

  -- the spans of one object more
  pub object_more : (s : ℕ) (objects : List ℕ) (n o : ℕ) (s0 now new : List Span) → n < length objects → o ≡ get_or objects n o
      → now ≡ s0 ++ map (span_from None v []) (flat_map (λ a. accesses_at v.accesses s a) (take n objects))
      → new ≡ now ++ map (span_from None v []) (accesses_at v.accesses s o)
      → new ≡ s0 ++ map (span_from None v []) (flat_map (λ a. accesses_at v.accesses s a) (take (n + 1) objects))
  object_more s objects n o s0 now new within is so_far added =
      let f : ℕ → List Triple = λ a. accesses_at v.accesses s a in
      let g = map (span_from None v []) in
      added ∙ ap (λ k. k ++ g (f o)) so_far ∙ append_assoc s0 (g (flat_map f (take n objects))) (g (f o))
      ∙ ap (λ k. s0 ++ k) (sym (ap g (flat_map_more f objects n o within ∙ ap (λ k. flat_map f (take n objects) ++ f k) (sym is))
      ∙ map-append (span_from None v []) (flat_map f (take n objects)) (f o)))

  -- the spans of one subject more
  pub subject_more : (n : ℕ) (now new : List Span) → now ≡ map (span_from None v []) (by_subject v.accesses n)
      → new ≡ now ++ map (span_from None v []) (accesses_of v.accesses n) → new ≡ map (span_from None v []) (by_subject v.accesses (n + 1))
  subject_more n now new so_far added =
      let g = map (span_from None v []) in
      added ∙ ap (λ k. k ++ g (accesses_of v.accesses n)) so_far
      ∙ sym (ap g (range_flat_more (accesses_of v.accesses) n) ∙ map-append (span_from None v []) (by_subject v.accesses n) (accesses_of v.accesses n))

  four_false : (a b c d : Bool) → a ≡ false → b ≡ false → c ≡ false → d ≡ false → (a || (b || (c || d))) ≡ false
  four_false a b c d ea eb ec ed = λ i. ea i || (eb i || (ec i || ed i))

  -- a subject that isn't known has no accesses
  no_objects : (s : ℕ) → HasTree v → is_subject v s ≡ false → objects_of v.accesses s ≡ []
  unfolding objects_of listed
  no_objects s tree unknown = filter_range_none (is_accessed v.accesses s) 0 MAX_OBJECTS (λ o low high.
      four_false _ _ _ _ (unknown_subject Accesses v s o Execute tree unknown) (unknown_subject Accesses v s o Read tree unknown)
      (unknown_subject Accesses v s o Append tree unknown) (unknown_subject Accesses v s o Write tree unknown))

  pub none_of_unknown : (s : ℕ) (spans : List Span) → HasTree v → is_subject v s ≡ false
      → spans ≡ spans ++ map (span_from None v []) (accesses_of v.accesses s)
  none_of_unknown s spans tree unknown =
      sym (append-nil spans)
      ∙ ap (λ k. spans ++ map (span_from None v []) (flat_map (λ o. accesses_at v.accesses s o) k)) (sym (no_objects s tree unknown))

  -- nothing is added yet
  pub none_yet : (spans : List Span) → spans ≡ spans ++ []
  none_yet spans = sym (append-nil spans)

  -- what begins is held
  span_stands : (t : Triple) → set.contains v.accesses t ≡ true → stands v (span_from None v [] t) ≡ true
  span_stands t there = there

  one_stands : (p : Triple → Bool) (t : Triple) (ts : List Triple) (b : Bool) → p t ≡ b → ((u : Triple) → p u ≡ true → set.contains v.accesses u ≡ true)
      → list_all (stands v) (map (span_from None v []) ts) ≡ true → list_all (stands v) (map (span_from None v []) (cond b (t ∷ ts) ts)) ≡ true
  one_stands p t ts true is held rest = λ i. held t is i && rest i
  one_stands p t ts false is held rest = rest

  all_stand : (p : Triple → Bool) (ts : List Triple) → ((t : Triple) → p t ≡ true → set.contains v.accesses t ≡ true)
      → list_all (stands v) (map (span_from None v []) (filter p ts)) ≡ true
  all_stand p [] held = refl
  all_stand p (t ∷ ts) held = one_stands p t (filter p ts) (p t) refl held (all_stand p ts held)

  all_flat : {X : Type 0} (f : X → List Triple) (xs : List X) → ((x : X) → list_all (stands v) (map (span_from None v []) (f x)) ≡ true)
      → list_all (stands v) (map (span_from None v []) (flat_map f xs)) ≡ true
  all_flat f [] each = refl
  all_flat f (x ∷ xs) each =
      ap (λ l. list_all (stands v) (map (span_from None v []) l)) (flat_map-cons f x xs)
      ∙ ap (list_all (stands v)) (map-append (span_from None v []) (f x) (flat_map f xs))
      ∙ list_all-append (stands v) (map (span_from None v []) (f x)) (map (span_from None v []) (flat_map f xs))
      ∙ (λ i. each x i && all_flat f xs each i)

  pub opened_stand : (n : ℕ) → list_all (stands v) (map (span_from None v []) (by_subject v.accesses n)) ≡ true
  opened_stand n =
      all_flat (accesses_of v.accesses) (range_with_len 0 n)
      (λ s. all_flat (λ o. accesses_at v.accesses s o) (objects_of v.accesses s)
      (λ o. all_stand (set.contains v.accesses) ((s, o, Execute) ∷ (s, o, Read) ∷ (s, o, Append) ∷ (s, o, Write) ∷ []) (λ t is. is)))

  pub new_stand : (spans : List Span) → spans ≡ opened v [] → list_all (stands v) spans ≡ true
  new_stand spans is = ap (list_all (stands v)) is ∙ opened_stand MAX_SUBJECTS
