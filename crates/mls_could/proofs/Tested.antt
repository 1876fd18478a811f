-- Tests of what could be got.
use Rattle.std.proofs.Common.{◌≡◌, ◌↔◌, ℕ, ◌+◌, ◌<◌, ◌≤◌, Bool, true, false, not, ◌&&◌, ◌||◌, ◌⊎◌, inl, inr, List, [], ◌∷◌, ◌++◌, Option, Some, None, length, get_or, refl, sym, ap, ◌∙◌, arith}
use Rattle.std.specs.Prelude.{filter, slice_get, if◌then◌else◌}
use Rattle.std.specs.List.{flat_map, range_with_len}
use Rattle.std.proofs.lemmas.List.{append_assoc}
use Rattle.std.proofs.lemmas.Option.{slice_get_cases}
use Rattle.std.proofs.lemmas.List.Elements.{filter-append}
use Rattle.mls_facts.proofs.Gathered.{range_flat_more}
use Rattle.std.specs.FinSet as set
use Rattle.std.proofs.lemmas.Bool.{and_parts, and_from, or_cases, or_left, or_right}
use Rattle.mls_facts.specs.Numbered.{holds_of}
use Rattle.mls_tables.specs.Triples.{Triple}
use Rattle.mls_tables.specs.declared.mode.Mode.{Mode}
use Rattle.mls_state.specs.State.{State, is_subject, is_active}
use Rattle.mls_state.specs.Properties.{HasTree, is_known, simple_holds, integrity_holds}
use Rattle.mls_futures.specs.Closure.{acts_in, HasTrusted, Qualifies, CouldGet, CouldGive, permitted}
use Rattle.mls_futures.proofs.Laws.{got_qualifies, got_how, got_given}
use Rattle.mls_tables.specs.declared.mode.Mode.TheVariants.{Execute, Read, Append, Write}
use Rattle.mls_tables.specs.declared.limits.TheConstants.{MAX_OBJECTS}
use Rattle.mls_could.specs.Brought.{accesses_to, accesses_by, is_lacking}
use Rattle.mls_could.specs.Outsets.{acts_of, IsOutset, Decides}
use Rattle.mls_could.specs.declared.outset.Outset.{Outset}

-- what a list of flags says of a number
flag_there : (e : Option Bool) → holds_of (λ b. b) e ≡ true → e ≡ Some true
flag_there None is = cc
flag_there (Some b) is = ap Some is

flag_at : (e : Option Bool) (b : Bool) → e ≡ Some b → holds_of (λ c. c) e ≡ b
flag_at None b is = cc
flag_at (Some c) b is = let same : Some c ≡ Some b = is in cc

-- a list has an item at each number below its length
past : (xs : List Bool) (n : ℕ) → n < length xs → slice_get xs n ≡ None → ⊥
past xs n below none = from ((slice_get_cases xs n).1) where
  from : ((x : Bool) × (n < length xs) × (slice_get xs n ≡ Some x) × (get_or xs n x ≡ x)) ⊎ ((length xs ≤ n) × (slice_get xs n ≡ None)) → ⊥
  from (inl at) = let no : None ≡ Some at.0 = sym none ∙ at.2 in cc
  from (inr over) = let far = over.0 in omega (arith, below, far)

-- whether an actor could get an access, by what is known beforehand
abbrev pub is_could : State → Outset → Triple → Bool
is_could v outset t =
    is_known v t && (acts_of outset t.0 && (integrity_holds v t && ((outset.trusted || simple_holds v t) && (set.contains v.matrix t || acts_in outset.gives.items t.1))))

module _ (v : State) (outset : Outset) (h : HasTree v) (is : IsOutset v outset) where
  -- where an object is active, its flag says whether an actor could give permissions of it
  pub gives_right : (o : ℕ) → is_active v o ≡ true → (acts_in outset.gives.items o ≡ true ↔ CouldGive v (acts_of outset) o)
  gives_right o active = from (slice_get outset.gives.items o) refl where
    from : (e : Option Bool) → slice_get outset.gives.items o ≡ e → (acts_in outset.gives.items o ≡ true ↔ CouldGive v (acts_of outset) o)
    from None none =
        let below = h.objects.below o active in
        let many = is.many in
        absurd (past outset.gives.items o (omega (arith, below, many)) none)
    from (Some b) at =
        let right = is.gives o b at active in
        (λ there. right.0 (sym (flag_at (slice_get outset.gives.items o) b at) ∙ there), λ gives. flag_at (slice_get outset.gives.items o) b at ∙ right.1 gives)

  pub decides : Decides (is_could v outset) v (acts_of outset)
  decides (s, o, x) = (does, tells) where
    does : is_could v outset (s, o, x) ≡ true → CouldGet v (acts_of outset) s o x
    does test =
        let known = and_parts (is_known v (s, o, x)) _ test in
        let actor = and_parts (acts_of outset s) _ known.1 in
        let integrity = and_parts (integrity_holds v (s, o, x)) _ actor.1 in
        let simple = and_parts (outset.trusted || simple_holds v (s, o, x)) _ integrity.1 in
        by_how (record {
          actor = actor.0;
          known = known.0;
          integrity = integrity.0;
          simple = by_simple (or_cases outset.trusted (simple_holds v (s, o, x)) simple.0);
        }) (or_cases (set.contains v.matrix (s, o, x)) (acts_in outset.gives.items o) simple.1) where
          by_simple : (outset.trusted ≡ true) ⊎ (simple_holds v (s, o, x) ≡ true) → (simple_holds v (s, o, x) ≡ true) ⊎ HasTrusted v (acts_of outset)
          by_simple (inl trusted) = inr (is.trusted.0 trusted)
          by_simple (inr holds) = inl holds

          by_how : Qualifies v (acts_of outset) s o x → (set.contains v.matrix (s, o, x) ≡ true) ⊎ (acts_in outset.gives.items o ≡ true) → CouldGet v (acts_of outset) s o x
          by_how q (inl has) = permitted has q
          by_how q (inr gives) =
              got_given v (acts_of outset) s o x ((gives_right o ((and_parts (is_subject v s) (is_active v o) q.known).1)).0 gives) q

    tells : CouldGet v (acts_of outset) s o x → is_could v outset (s, o, x) ≡ true
    tells could =
        and_from (is_known v (s, o, x)) _ q.known
        (and_from (acts_of outset s) _ q.actor
        (and_from (integrity_holds v (s, o, x)) _ q.integrity
        (and_from (outset.trusted || simple_holds v (s, o, x)) (set.contains v.matrix (s, o, x) || acts_in outset.gives.items o) (by_simple q.simple)
        (by_how (got_how v (acts_of outset) s o x could))))) where
          q : Qualifies v (acts_of outset) s o x
          q = got_qualifies v (acts_of outset) s o x could

          by_simple : (simple_holds v (s, o, x) ≡ true) ⊎ HasTrusted v (acts_of outset) → (outset.trusted || simple_holds v (s, o, x)) ≡ true
          by_simple (inl holds) = or_right outset.trusted (simple_holds v (s, o, x)) holds
          by_simple (inr t) = or_left outset.trusted (simple_holds v (s, o, x)) (is.trusted.1 t)

          by_how : (set.contains v.matrix (s, o, x) ≡ true) ⊎ CouldGive v (acts_of outset) o → (set.contains v.matrix (s, o, x) || acts_in outset.gives.items o) ≡ true
          by_how (inl has) = or_left (set.contains v.matrix (s, o, x)) (acts_in outset.gives.items o) has
          by_how (inr gives) =
              or_right (set.contains v.matrix (s, o, x)) (acts_in outset.gives.items o) ((gives_right o ((and_parts (is_subject v s) (is_active v o) q.known).1)).1 gives)

-- two tests of what could be got agree
pub same_test : (v : State) (acts : ℕ → Bool) (test : Triple → Bool) (t : Triple) (c : Bool) → Decides test v acts → (c ≡ true ↔ CouldGet v acts t.0 t.1 t.2) → test t ≡ c
same_test v acts test t c right is = from (test t) c refl refl where
  from : (a b : Bool) → test t ≡ a → c ≡ b → test t ≡ c
  from true true at at_c = at ∙ sym at_c
  from true false at at_c = at ∙ sym (is.1 ((right t).0 at))
  from false true at at_c = (right t).1 (is.0 at_c) ∙ sym at_c
  from false false at at_c = at ∙ sym at_c

-- a list of one item that passes a test or doesn't
pub filter_one : (p : Triple → Bool) (t : Triple) → p t ≡ true → filter p (t ∷ []) ≡ t ∷ []
filter_one p t is = ap (λ b. if b then t ∷ [] else []) is

pub filter_none : (p : Triple → Bool) (t : Triple) → p t ≡ false → filter p (t ∷ []) ≡ []
filter_none p t is = ap (λ b. if b then t ∷ [] else []) is

-- one access that is added, or isn't
pub one_lacking : (v : State) (acts : ℕ → Bool) (test : Triple → Bool) (t : Triple) (c : Bool) → Decides test v acts → (c ≡ true ↔ CouldGet v acts t.0 t.1 t.2)
    → (not (set.contains v.matrix t) && c) ≡ true → filter (is_lacking v test) (t ∷ []) ≡ t ∷ []
one_lacking v acts test t c right is both = filter_one (is_lacking v test) t (ap (λ b. not (set.contains v.matrix t) && b) (same_test v acts test t c right is) ∙ both)

pub none_lacking : (v : State) (acts : ℕ → Bool) (test : Triple → Bool) (t : Triple) (c : Bool) → Decides test v acts → (c ≡ true ↔ CouldGet v acts t.0 t.1 t.2)
    → (not (set.contains v.matrix t) && c) ≡ false → filter (is_lacking v test) (t ∷ []) ≡ []
none_lacking v acts test t c right is both = filter_none (is_lacking v test) t (ap (λ b. not (set.contains v.matrix t) && b) (same_test v acts test t c right is) ∙ both)

-- of an object of which nobody could give permissions nothing lacks
pub object_lacking : (v : State) (outset : Outset) → HasTree v → IsOutset v outset → (test : Triple → Bool) → Decides test v (acts_of outset) → (s o : ℕ)
    → acts_in outset.gives.items o ≡ false → filter (is_lacking v test) (accesses_to s o) ≡ []
object_lacking v outset h is test right s o shut =
    filter_all (λ x. nothing x) where
      nothing : (x : Mode) → is_lacking v test (s, o, x) ≡ false
      nothing x = from (set.contains v.matrix (s, o, x)) (test (s, o, x)) refl refl where
        from : (m c : Bool) → set.contains v.matrix (s, o, x) ≡ m → test (s, o, x) ≡ c → (not (set.contains v.matrix (s, o, x)) && test (s, o, x)) ≡ false
        from true c has at = ap (λ b. not b && test (s, o, x)) has
        from false false lacks at = (λ i. not (lacks i) && at i)
        from false true lacks at =
            let could = (right (s, o, x)).0 at in
            let active = (and_parts (is_subject v s) (is_active v o) ((got_qualifies v (acts_of outset) s o x could).known)).1 in
            by_how active (got_how v (acts_of outset) s o x could) where
              by_how : is_active v o ≡ true → (set.contains v.matrix (s, o, x) ≡ true) ⊎ CouldGive v (acts_of outset) o → (not (set.contains v.matrix (s, o, x)) && test (s, o, x)) ≡ false
              by_how active (inl has) = let no : true ≡ false = sym has ∙ lacks in cc
              by_how active (inr gives) = let no : true ≡ false = sym ((gives_right v outset h is o active).1 gives) ∙ shut in cc

      filter_all : ((x : Mode) → is_lacking v test (s, o, x) ≡ false) → filter (is_lacking v test) (accesses_to s o) ≡ []
      filter_all none =
          filter-append (is_lacking v test) ((s, o, Execute) ∷ []) ((s, o, Read) ∷ (s, o, Append) ∷ (s, o, Write) ∷ [])
          ∙ (λ i. filter_none (is_lacking v test) (s, o, Execute) (none Execute) i ++ filter (is_lacking v test) ((s, o, Read) ∷ (s, o, Append) ∷ (s, o, Write) ∷ []))
          ∙ filter-append (is_lacking v test) ((s, o, Read) ∷ []) ((s, o, Append) ∷ (s, o, Write) ∷ [])
          ∙ (λ i. filter_none (is_lacking v test) (s, o, Read) (none Read) i ++ filter (is_lacking v test) ((s, o, Append) ∷ (s, o, Write) ∷ []))
          ∙ filter-append (is_lacking v test) ((s, o, Append) ∷ []) ((s, o, Write) ∷ [])
          ∙ (λ i. filter_none (is_lacking v test) (s, o, Append) (none Append) i ++ filter_none (is_lacking v test) (s, o, Write) (none Write) i)

-- one item and others
one_more_item : (p : Triple → Bool) (t : Triple) (ts : List Triple) → filter p (t ∷ ts) ≡ filter p (t ∷ []) ++ filter p ts
one_more_item p t ts = filter-append p (t ∷ []) ts

-- four modes, one after the other
pub four_lacking : (p : Triple → Bool) (s o : ℕ) (old a b c d : List Triple) → a ≡ old ++ filter p ((s, o, Execute) ∷ []) → b ≡ a ++ filter p ((s, o, Read) ∷ [])
    → c ≡ b ++ filter p ((s, o, Append) ∷ []) → d ≡ c ++ filter p ((s, o, Write) ∷ []) → d ≡ old ++ filter p (accesses_to s o)
four_lacking p s o old a b c d one two three four =
    four ∙ ap (λ t. t ++ last) (three ∙ ap (λ t. t ++ third) (two ∙ ap (λ t. t ++ second) one))
    ∙ append_assoc ((old ++ first) ++ second) third last
    ∙ append_assoc (old ++ first) second (third ++ last)
    ∙ append_assoc old first (second ++ (third ++ last))
    ∙ ap (λ t. old ++ t) (sym all) where
      first : List Triple
      first = filter p ((s, o, Execute) ∷ [])

      second : List Triple
      second = filter p ((s, o, Read) ∷ [])

      third : List Triple
      third = filter p ((s, o, Append) ∷ [])

      last : List Triple
      last = filter p ((s, o, Write) ∷ [])

      all : filter p (accesses_to s o) ≡ first ++ (second ++ (third ++ last))
      all =
          one_more_item p (s, o, Execute) ((s, o, Read) ∷ (s, o, Append) ∷ (s, o, Write) ∷ [])
          ∙ ap (λ t. first ++ t) (one_more_item p (s, o, Read) ((s, o, Append) ∷ (s, o, Write) ∷ [])
          ∙ ap (λ t. second ++ t) (one_more_item p (s, o, Append) ((s, o, Write) ∷ [])))

-- the accesses of one number more
pub more_lacking : (p : Triple → Bool) (f : ℕ → List Triple) (n : ℕ) (old now new : List Triple) → now ≡ old ++ filter p (flat_map f (range_with_len 0 n))
    → new ≡ now ++ filter p (f n) → new ≡ old ++ filter p (flat_map f (range_with_len 0 (n + 1)))
more_lacking p f n old now new so_far added =
    added ∙ ap (λ t. t ++ filter p (f n)) so_far ∙ append_assoc old (filter p (flat_map f (range_with_len 0 n))) (filter p (f n))
    ∙ ap (λ t. old ++ t) (sym (ap (filter p) (range_flat_more f n) ∙ filter-append p (flat_map f (range_with_len 0 n)) (f n)))

-- the accesses of a subject are those to each object
pub accesses_all : (s : ℕ) → accesses_by s ≡ flat_map (accesses_to s) (range_with_len 0 MAX_OBJECTS)
unfolding accesses_by
accesses_all s = refl
