-- What is left where a subject has released what the star property refuses at a label, and what no change of its own brings.
use Rattle.std.proofs.Common.{◌≡◌, ℕ, ◌⊎◌, inl, inr, Bool, true, false, not, ◌&&◌, ◌||◌, eqb, Option, Some, None, List, [], ◌∷◌, All, map, filter, refl, sym, ap, subst, ◌∙◌}
use Rattle.std.specs.FinMap as table
use Rattle.std.specs.FinSet as set
use Rattle.std.specs.List.{flat_map, list_any}
use Rattle.std.proofs.lemmas.Bool.{and_parts, and_from, or_left, or_right, or_cases, cases_Bool, false≢true, eqb-true}
use Rattle.std.proofs.lemmas.List.Elements.{All-append, All-cons, All-filter, All-head, All-nil, All-tail}
use Rattle.std.proofs.lemmas.List.Folds.{list_any-append}
use Rattle.mls_facts.proofs.Entries.{at_new}
use Rattle.mls_labels.specs.Label.{Label, dominates, has_label}
use Rattle.mls_labels.proofs.Laws.{reflexive}
use Rattle.mls_tables.specs.Held.{is_held}
use Rattle.mls_tables.specs.Triples.{Triple, TripleSet, is_triple}
use Rattle.mls_tables.specs.declared.mode.Mode.{Mode}
use Rattle.mls_tables.specs.declared.mode.Mode.TheVariants.{Execute, Read, Append, Write}
use Rattle.mls_tables.proofs.Laws.{contains-remove-triple, held_at, is_triple-itself, is_triple-true}
use Rattle.mls_requests.specs.declared.action.Action.{Action}
use Rattle.mls_requests.specs.declared.action.Action.TheVariants.{Get, Release, Give, Rescind, Create, Delete, SubjectLevel, ObjectLevel}
use Rattle.mls_requests.specs.declared.reply.Reply.{Reply}
use Rattle.mls_requests.specs.declared.reply.Reply.TheVariants.{Yes, Created, No, Undefined}
use Rattle.mls_requests.specs.declared.request.Request.{Request}
use Rattle.mls_state.specs.State.{State, is_subject, is_active, is_above}
use Rattle.mls_state.specs.Changes.{with_current}
use Rattle.mls_state.specs.Properties.{discretionary_holds, simple_between, simple_holds, star_between, star_holds, integrity_between, integrity_holds}
use Rattle.mls_rules.specs.Rules.{reply, change, after_reply, after}
use Rattle.mls_explain.specs.Demands.{failing_at}
use Rattle.mls_explain.specs.declared.demand.Demand.TheVariants.{StarAtLevel}
use Rattle.mls_explain.specs.Remedy.{get_request, Helps}
use Rattle.mls_explain.specs.Ways.{release_request, played, refused_at, freed_for, IsOwnLevel, is_own_change, IsOwnChange, HasMaximumWithin, IsNever}
use Rattle.mls_explain.proofs.LowerLevels.{Takes, Gets, gets_from, helps_from, all_own, lower_within}

-- accesses without some of a subject
pub removed : ℕ → TripleSet → List Triple → TripleSet
removed s b [] = b
removed s b (t ∷ ts) = removed s (set.remove b (s, t.1, t.2)) ts

one_released : (v : State) (s : ℕ) (t : Triple) → is_subject v s ≡ true → is_active v t.1 ≡ true
    → after v (release_request s t) ≡ record v { accesses = set.remove v.accesses (s, t.1, t.2) }
one_released v s t known active = rw (known, active) refl

-- the state after releases has those accesses no longer
released_is : (v : State) (s : ℕ) (ts : List Triple) → is_subject v s ≡ true → All (λ t. is_active v t.1 ≡ true) ts
    → played v (map (release_request s) ts) ≡ record v { accesses = removed s v.accesses ts }
unfolding played removed
released_is v s [] known active = refl
released_is v s (t ∷ ts) known active =
    ap (λ w. played w (map (release_request s) ts)) (one_released v s t known (All-head (λ u. is_active v u.1 ≡ true) t ts active))
    ∙ released_is (record v { accesses = set.remove v.accesses (s, t.1, t.2) }) s ts known (All-tail (λ u. is_active v u.1 ≡ true) t ts active)

neither : (a b : Bool) → not a ≡ true → b ≡ false → (a || b) ≡ false
neither true b h k = absurd (false≢true h)
neither false b h k = k

-- an access that is left was there, and isn't released
pub left : (s o : ℕ) (x : Mode) (ts : List Triple) (b : TripleSet) → set.contains (removed s b ts) (s, o, x) ≡ true
    → (set.contains b (s, o, x) ≡ true) × (list_any (λ t. is_triple (s, o, x) (s, t.1, t.2)) ts ≡ false)
unfolding removed
left s o x [] b there = (there, refl)
left s o x (t ∷ ts) b there =
    let rest = left s o x ts (set.remove b (s, t.1, t.2)) there in
    let both = and_parts (not (is_triple (s, o, x) (s, t.1, t.2))) (set.contains b (s, o, x)) (sym (contains-remove-triple b (s, t.1, t.2) (s, o, x)) ∙ rest.0) in
    (both.1, neither (is_triple (s, o, x) (s, t.1, t.2)) _ both.0 rest.1)

-- an item of a list that passes both tests stands among those that pass the first
picked : (p q : Triple → Bool) (t : Triple) (xs : List Triple) → q t ≡ true → p t ≡ true → list_any (is_triple t) xs ≡ true → list_any p (filter q xs) ≡ true
picked p q t [] passes is there = absurd (false≢true there)
picked p q t (x ∷ xs) passes is there = from (picked p q t xs passes is) (or_cases (is_triple t x) (list_any (is_triple t) xs) there) (cases_Bool (q x)) where
  from : (list_any (is_triple t) xs ≡ true → list_any p (filter q xs) ≡ true) → (is_triple t x ≡ true) ⊎ (list_any (is_triple t) xs ≡ true)
      → (q x ≡ true) ⊎ (q x ≡ false) → list_any p (filter q (x ∷ xs)) ≡ true
  from rest (inl here) (inl fits) = rw fits (or_left (p x) _ (subst (λ u. p u ≡ true) (is_triple-true t x here) is))
  from rest (inl here) (inr misses) = absurd (false≢true (sym misses ∙ subst (λ u. q u ≡ true) (is_triple-true t x here) passes))
  from rest (inr later) (inl fits) = rw fits (or_right (p x) _ (rest later))
  from rest (inr later) (inr misses) = rw misses (rest later)

-- what stands in the piece of a number stands in all pieces
in_pieces : (p : Triple → Bool) (f : ℕ → List Triple) (o : ℕ) (os : List ℕ) → list_any (eqb o) os ≡ true → list_any p (f o) ≡ true → list_any p (flat_map f os) ≡ true
in_pieces p f o [] there is = absurd (false≢true there)
in_pieces p f o (n ∷ os) there is =
    list_any-append p (f n) (flat_map f os) ∙ from (λ later. in_pieces p f o os later is) (or_cases (eqb o n) (list_any (eqb o) os) there) where
      from : (list_any (eqb o) os ≡ true → list_any p (flat_map f os) ≡ true) → (eqb o n ≡ true) ⊎ (list_any (eqb o) os ≡ true)
          → (list_any p (f n) || list_any p (flat_map f os)) ≡ true
      from rest (inl here) = or_left (list_any p (f n)) _ (subst (λ k. list_any p (f k) ≡ true) (eqb-true o n here) is)
      from rest (inr later) = or_right (list_any p (f n)) _ (rest later)

each_piece : (P : Triple → Type 0) (f : ℕ → List Triple) (os : List ℕ) → All (λ o. All P (f o)) os → All P (flat_map f os)
each_piece P f [] all = All-nil P
each_piece P f (o ∷ os) all =
    All-append P (f o) (flat_map f os) (All-head (λ n. All P (f n)) o os all) (each_piece P f os (All-tail (λ n. All P (f n)) o os all))

module _ (v : State) (s : ℕ) (l : Label) (os : List ℕ) (listed : (o : ℕ) → list_any (λ a. eqb o a) os ≡ is_held v.accesses s o)
    (objects : refused_at v s l ≡ flat_map (failing_at (StarAtLevel s l) v s) os) where
  four : (o : ℕ) (x : Mode) → list_any (is_triple (s, o, x)) ((s, o, Execute) ∷ (s, o, Read) ∷ (s, o, Append) ∷ (s, o, Write) ∷ []) ≡ true
  four o Execute = or_left _ _ (is_triple-itself (s, o, Execute))
  four o Read = or_right (is_triple (s, o, Read) (s, o, Execute)) _ (or_left _ _ (is_triple-itself (s, o, Read)))
  four o Append =
      or_right (is_triple (s, o, Append) (s, o, Execute)) _ (or_right (is_triple (s, o, Append) (s, o, Read)) _ (or_left _ _ (is_triple-itself (s, o, Append))))
  four o Write =
      or_right (is_triple (s, o, Write) (s, o, Execute)) _
      (or_right (is_triple (s, o, Write) (s, o, Read)) _ (or_right (is_triple (s, o, Write) (s, o, Append)) _ (or_left _ _ (is_triple-itself (s, o, Write)))))

  -- what is held and star refuses is listed
  is_refused : (o : ℕ) (x : Mode) → set.contains v.accesses (s, o, x) ≡ true → star_holds (with_current v s l) (s, o, x) ≡ false
      → list_any (λ t. is_triple (s, o, x) (s, t.1, t.2)) (refused_at v s l) ≡ true
  is_refused o x there fails =
      let p : Triple → Bool = λ t. is_triple (s, o, x) (s, t.1, t.2) in
      let own : p (s, o, x) ≡ true = is_triple-itself (s, o, x) in
      let held : list_any (is_triple (s, o, x)) (filter (set.contains v.accesses) ((s, o, Execute) ∷ (s, o, Read) ∷ (s, o, Append) ∷ (s, o, Write) ∷ [])) ≡ true =
      picked (is_triple (s, o, x)) (set.contains v.accesses) (s, o, x) ((s, o, Execute) ∷ (s, o, Read) ∷ (s, o, Append) ∷ (s, o, Write) ∷ []) there (is_triple-itself (s, o, x)) (four o x) in
      let failing : list_any p (failing_at (StarAtLevel s l) v s o) ≡ true =
      picked p (λ t. not (star_holds (with_current v s l) t)) (s, o, x)
      (filter (set.contains v.accesses) ((s, o, Execute) ∷ (s, o, Read) ∷ (s, o, Append) ∷ (s, o, Write) ∷ [])) (ap not fails) own held in
      ap (list_any p) objects ∙ in_pieces p (failing_at (StarAtLevel s l) v s) o os (listed o ∙ held_at v.accesses s o x there) failing

  -- what is left meets star at the label
  left_fits : (o : ℕ) (x : Mode) → set.contains (removed s v.accesses (refused_at v s l)) (s, o, x) ≡ true → star_holds (with_current v s l) (s, o, x) ≡ true
  left_fits o x there = from (left s o x (refused_at v s l) v.accesses there) (cases_Bool (star_holds (with_current v s l) (s, o, x))) where
    from : (set.contains v.accesses (s, o, x) ≡ true) × (list_any (λ t. is_triple (s, o, x) (s, t.1, t.2)) (refused_at v s l) ≡ false)
        → (star_holds (with_current v s l) (s, o, x) ≡ true) ⊎ (star_holds (with_current v s l) (s, o, x) ≡ false) → star_holds (with_current v s l) (s, o, x) ≡ true
    from kept (inl fits) = fits
    from kept (inr fails) = absurd (false≢true (sym kept.1 ∙ is_refused o x kept.0 fails))

  abbrev Active : Triple → Type 0
  Active t = is_active v t.1 ≡ true

  four_active : (n : ℕ) → is_active v n ≡ true → All Active ((s, n, Execute) ∷ (s, n, Read) ∷ (s, n, Append) ∷ (s, n, Write) ∷ [])
  four_active n is =
      All-cons Active (s, n, Execute) ((s, n, Read) ∷ (s, n, Append) ∷ (s, n, Write) ∷ []) is
      (All-cons Active (s, n, Read) ((s, n, Append) ∷ (s, n, Write) ∷ []) is
      (All-cons Active (s, n, Append) ((s, n, Write) ∷ []) is (All-cons Active (s, n, Write) [] is (All-nil Active))))

  piece_active : (n : ℕ) → is_active v n ≡ true → All Active (failing_at (StarAtLevel s l) v s n)
  piece_active n is =
      All-filter (λ t. not (star_holds (with_current v s l) t)) Active
      (filter (set.contains v.accesses) ((s, n, Execute) ∷ (s, n, Read) ∷ (s, n, Append) ∷ (s, n, Write) ∷ []))
      (All-filter (set.contains v.accesses) Active ((s, n, Execute) ∷ (s, n, Read) ∷ (s, n, Append) ∷ (s, n, Write) ∷ []) (four_active n is))

  pieces_active : (ns : List ℕ) → All (λ o. is_active v o ≡ true) ns → All (λ o. All Active (failing_at (StarAtLevel s l) v s o)) ns
  pieces_active [] all = All-nil (λ o. All Active (failing_at (StarAtLevel s l) v s o))
  pieces_active (n ∷ ns) all =
      All-cons (λ o. All Active (failing_at (StarAtLevel s l) v s o)) n ns (piece_active n (All-head (λ o. is_active v o ≡ true) n ns all))
      (pieces_active ns (All-tail (λ o. is_active v o ≡ true) n ns all))

  refused_active : All (λ o. is_active v o ≡ true) os → All (λ t. is_active v t.1 ≡ true) (refused_at v s l)
  refused_active active =
      subst (All (λ (t : Triple). is_active v t.1 ≡ true)) (sym objects)
      (each_piece (λ t. is_active v t.1 ≡ true) (failing_at (StarAtLevel s l) v s) os (pieces_active os active))

  -- with the releases a label is granted, and then the get
  pub released_helps : (o : ℕ) (x : Mode) → is_subject v s ≡ true → is_active v o ≡ true → All (λ n. is_active v n ≡ true) os → has_label v.security l ≡ true
      → is_above (table.get v.maximum s) (Some l) ≡ true → star_between (Some l) (table.get v.object_label o) x ≡ true
      → discretionary_holds v (s, o, x) ≡ true → simple_holds v (s, o, x) ≡ true → integrity_holds v (s, o, x) ≡ true → Helps (freed_for v s l) s o x l
  released_helps o x known active all within ceiling star permitted simple strict =
      subst (λ w. Helps w s o x l) (sym (released_is v s (refused_at v s l) known (refused_active all))) (helps_from freed s o x l takes gets) where
        freed : State
        freed = record v { accesses = removed s v.accesses (refused_at v s l) }

        takes : Takes freed s l
        takes = record { known = known; within = within; ceiling = ceiling; star = all_own freed s (star_holds (with_current freed s l)) left_fits }

        gets : Gets (with_current freed s l) s o x
        gets = record {
          known = known;
          active = active;
          discretionary = permitted;
          simple = simple;
          star = or_right (set.contains v.trusted s) _ (ap (λ e. star_between e (table.get v.object_label o) x) (at_new v.current s l) ∙ star);
          integrity = strict;
        }

-- the label for a get once releases are made: below the maximum, and star allows the get there
pub own_below : (maximum label : Option Label) (x : Mode) (l : Label) → IsOwnLevel maximum label x l → simple_between maximum label x ≡ true
    → is_above maximum (Some l) ≡ true
own_below maximum label Execute l own simple = own.first
own_below maximum label Read l own simple = ap (is_above maximum) (sym own) ∙ simple
own_below maximum label Append l own simple = own.first
own_below maximum label Write l own simple = ap (is_above maximum) (sym own) ∙ simple

pub own_star : (maximum label : Option Label) (x : Mode) (l : Label) → IsOwnLevel maximum label x l → star_between (Some l) label x ≡ true
own_star maximum label Execute l own = refl
own_star maximum label Read l own = subst (λ e. is_above (Some l) e ≡ true) (sym own) (reflexive l)
own_star maximum label Append l own = own.second
own_star maximum label Write l own =
    subst (λ e. star_between (Some l) e Write ≡ true) (sym own) (and_from (dominates l l) (dominates l l) (reflexive l) (reflexive l))

-- what no change of a subject's own changes
pub record Stays (v w : State) : Type 0 where
  pub matrix : w.matrix ≡ v.matrix
  pub maximum : w.maximum ≡ v.maximum
  pub integrity : w.subject_integrity ≡ v.subject_integrity
  pub label : w.object_label ≡ v.object_label
  pub trust : w.object_integrity ≡ v.object_integrity

stays_same : (v : State) → Stays v v
stays_same v = record { matrix = refl; maximum = refl; integrity = refl; label = refl; trust = refl }

stays_more : (u v w : State) → Stays u v → Stays v w → Stays u w
stays_more u v w one other = record {
  matrix = other.matrix ∙ one.matrix;
  maximum = other.maximum ∙ one.maximum;
  integrity = other.integrity ∙ one.integrity;
  label = other.label ∙ one.label;
  trust = other.trust ∙ one.trust;
}

stays_changed : (v : State) (s : ℕ) (a : Action) → is_own_change a ≡ true → Stays v (change v s a)
stays_changed v s (Get x o) own = absurd (false≢true own)
stays_changed v s (Release x o) own = record { matrix = refl; maximum = refl; integrity = refl; label = refl; trust = refl }
stays_changed v s (Give x t o) own = absurd (false≢true own)
stays_changed v s (Rescind x t o) own = absurd (false≢true own)
stays_changed v s (Create p l i) own = absurd (false≢true own)
stays_changed v s (Delete o) own = absurd (false≢true own)
stays_changed v s (SubjectLevel l) own = record { matrix = refl; maximum = refl; integrity = refl; label = refl; trust = refl }
stays_changed v s (ObjectLevel o l) own = absurd (false≢true own)

stays_after : (r : Reply) (v w : State) → Stays v w → Stays v (after_reply r v w)
stays_after Yes v w stays = stays
stays_after (Created o) v w stays = stays
stays_after (No reason) v w stays = stays_same v
stays_after Undefined v w stays = stays_same v

pub stays_played : (v : State) (s : ℕ) (rs : List Request) → All (IsOwnChange s) rs → Stays v (played v rs)
unfolding played
stays_played v s [] own = stays_same v
stays_played v s (r ∷ rs) own =
    stays_more v (after v r) (played (after v r) rs)
    (stays_after (reply v r) v (change v r.subject r.action) (stays_changed v r.subject r.action (All-head (IsOwnChange s) r rs own).action))
    (stays_played (after v r) s rs (All-tail (IsOwnChange s) r rs own))

-- a get that is granted after changes of the subject's own met the other conditions before them
pub met_before : (v : State) (s o : ℕ) (x : Mode) (rs : List Request) → All (IsOwnChange s) rs → reply (played v rs) (get_request s o x) ≡ Yes
    → (is_subject v s && is_active v o) ≡ true × (discretionary_holds v (s, o, x) && (simple_holds v (s, o, x) && integrity_holds v (s, o, x))) ≡ true
met_before v s o x rs own granted =
    let stays = stays_played v s rs own in
    let gets = gets_from (played v rs) s o x granted in (
      and_from (is_subject v s) (is_active v o) (ap (λ m. table.contains_key m s) (sym stays.maximum) ∙ gets.known)
          (ap (λ m. table.contains_key m o) (sym stays.label) ∙ gets.active),
      and_from (discretionary_holds v (s, o, x)) _ (ap (λ m. set.contains m (s, o, x)) (sym stays.matrix) ∙ gets.discretionary)
          (and_from (simple_holds v (s, o, x)) (integrity_holds v (s, o, x))
          ((λ i. simple_between (table.get (sym stays.maximum i) s) (table.get (sym stays.label i) o) x) ∙ gets.simple)
          ((λ i. integrity_between (table.get (sym stays.integrity i) s) (table.get (sym stays.trust i) o) x) ∙ gets.integrity)),
    )

-- where a subject isn't known or an object isn't active
pub never_unknown : (v : State) (s o : ℕ) (x : Mode) → (is_subject v s && is_active v o) ≡ false → IsNever v s o x
never_unknown v s o x unknown within rs own granted = false≢true (sym unknown ∙ (met_before v s o x rs own granted).0)

above_within : (v : State) (s : ℕ) (maximum : Option Label) (l : Label) → table.get v.maximum s ≡ maximum → HasMaximumWithin v s → is_above maximum (Some l) ≡ true
    → has_label v.security l ≡ true
above_within v s None l is within above = absurd (false≢true above)
above_within v s (Some m) l is within above = lower_within v.security m l above (within m is)

-- where the label for the get isn't within the bounds, or another condition fails
pub never_closed : (v : State) (s o : ℕ) (x : Mode) (l : Label) → IsOwnLevel (table.get v.maximum s) (table.get v.object_label o) x l
    → (has_label v.security l && (discretionary_holds v (s, o, x) && (simple_holds v (s, o, x) && integrity_holds v (s, o, x)))) ≡ false → IsNever v s o x
never_closed v s o x l own closed within rs changes granted =
    let open_ = (met_before v s o x rs changes granted).1 in
    let simple = (and_parts (simple_holds v (s, o, x)) (integrity_holds v (s, o, x)) (and_parts (discretionary_holds v (s, o, x)) _ open_).1).0 in
    let inside = above_within v s (table.get v.maximum s) l refl within (own_below (table.get v.maximum s) (table.get v.object_label o) x l own simple) in
    false≢true (sym closed ∙ and_from (has_label v.security l) _ inside open_)
