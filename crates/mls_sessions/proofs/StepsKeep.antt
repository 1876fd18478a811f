-- Each step of the gate keeps its rule.
use Rattle.std.proofs.Common.{le_refl, ◌≡◌, ◌≢◌, ℕ, zero, suc, ◌+◌, ◌-◌, ◌%◌, ◌<◌, ◌≤◌, eqb, List, [], ◌∷◌, ◌++◌, get_or, set, refl, sym, ap, ◌∙◌, subst, inl, inr, ⊎_elim, arith, eq-eqb, ne_eqb, length-set, get_or-set_same, get_or-set_other, append-nil, append_assoc, Option, Some, None}
use mathlib.Core.Logic.{dite}
use mathlib.Core.Option.{some, some-injective, some-ne-none}
use mathlib.Core.Option as maybe
use native.Mathlib.Decide.{ℕ_discrete}
use lib.ListN.{get_elem?}
use lib.Seq.{set-get_or, drop-append_seam}
use prog.Atomic.{either}
use Rattle.std.specs.Prelude.{replicate}
use Rattle.atomic_table.specs.Table.{State, Act, step, keeps, takes, gives, opening, stepped, Valid, carried_after, Allows}
use Rattle.atomic_table.proofs.Lists.{at_set, set_again, set_here}
use Rattle.mls_requests.specs.declared.entry.Entry.{Entry}
use Rattle.mls_sessions.specs.Journals.{Charter}
use Rattle.mls_turns.specs.Journals.{Stands, Journal, journal}
use Rattle.mls_monitor.specs.Entries.{of_session}
use Rattle.std.proofs.lemmas.List.{length-replicate, get_or-replicate}
use Rattle.mls_monitor.specs.Journal.{fold}
use Rattle.mls_sessions.specs.Cells.{Tells, Agrees}
use Rattle.mls_sessions.specs.Changes.{changes}
use Rattle.mls_sessions.specs.declared.limits.TheConstants.{CHANGES, FIRST}
use Rattle.mls_sessions.specs.Rule.{member, word_of, Names, base, stretch, opened, with_more, present, stretch_of, IsMember, Fits, IsUnused, Knows, Running, IsEmpty, IsFilling, Gated, begun}
use Rattle.mls_sessions.specs.Steps.{Seat, filled, settled, Taken, won, kept_view, kept, marked, updated_view, updated}
use Rattle.mls_sessions.specs.declared.gate_table.Stretch.{Stretch}
use Rattle.mls_sessions.specs.declared.gate_table.Member.{Member}
use Rattle.mls_sessions.specs.declared.gate_table.View.{View}
use Rattle.mls_sessions.specs.declared.gate_table.View.TheVariants.{Spent, Starting, Filling, Giving, Sessions, Holding}
use Rattle.mls_sessions.specs.Sessions.{member_of, taken_of, seated}
use Rattle.mls_sessions.proofs.OwnEntries.{own-append, prefix_refl, prefix_more}

-- a word that names a session isn't free
pub names_some : (w k : ℕ) → Names w k → 0 < w
names_some w k named = ⊎_elim (λ (e : w ≡ word_of k). let x : 0 < w = omega arith in x) (λ (e : w ≡ word_of k + 1). let x : 0 < w = omega arith in x) named

-- it names no other
pub names_one : (w k j : ℕ) → Names w k → Names w j → k ≡ j
names_one w k j a b = ⊎_elim
    (λ (e : w ≡ word_of k). ⊎_elim (λ (f : w ≡ word_of j). let x : k ≡ j = omega arith in x) (λ (f : w ≡ word_of j + 1). let x : k ≡ j = omega arith in x) b)
    (λ (e : w ≡ word_of k + 1). ⊎_elim (λ (f : w ≡ word_of j). let x : k ≡ j = omega arith in x) (λ (f : w ≡ word_of j + 1). let x : k ≡ j = omega arith in x) b) a

-- the mark leaves the name
pub names_marked : (w k : ℕ) → w % 2 ≡ 0 → Names w k → Names (w + 1) k
names_marked w k even named = ⊎_elim (λ (e : w ≡ word_of k). inr (let x : w + 1 ≡ word_of k + 1 = omega arith in x)) (λ (e : w ≡ word_of k + 1). absurd (omega arith)) named

abbrev pub St : Type 0
St = State (Option Journal) View

abbrev pub tag : View → ℕ
tag Spent = 0
tag (Starting c) = 1
tag (Filling c) = 2
tag (Giving c g) = 3
tag (Sessions c is) = 4
tag (Holding c i t b) = 5

pub one_view : (a b : View) (id : ℕ) → get_elem? (a ∷ []) id ≡ some b → a ≡ b
one_view a b zero e = some-injective a b e
one_view a b (suc id) e = absurd (some-ne-none b (sym e))

pub one_id : (a b : View) (id : ℕ) → get_elem? (a ∷ []) id ≡ some b → id ≡ 0
one_id a b zero e = refl
one_id a b (suc id) e = absurd (some-ne-none b (sym e))

abbrev start_of : Charter → View → Charter
start_of d (Starting c) = c
start_of d (Filling c) = c
start_of d v = d

pub running : (key : Charter) (s : St) → Gated key s → (id : ℕ) (v : View) → get_elem? s.views id ≡ some v → 2 < tag v → Running key s
running key s g id v at late = ⊎_elim
    (λ (e : IsEmpty key s). let was = ap tag (one_view (Starting key) v id (subst (λ (t : St). get_elem? t.views id ≡ some v) e at)) in absurd (omega arith))
    (⊎_elim
    (λ (e : IsFilling key s). let was = ap tag (one_view (Filling key) v id (subst (λ (t : St). get_elem? t.views id ≡ some v) e at)) in absurd (omega arith))
    (λ r. r)) g

pub at_here : (vs : List View) (id : ℕ) (v w : View) → get_elem? vs id ≡ some v → get_elem? (set vs id w) id ≡ some w
at_here [] id v w e = absurd (some-ne-none v (sym e))
at_here (x ∷ vs) zero v w e = refl
at_here (x ∷ vs) (suc id) v w e = at_here vs id v w e

-- a step on the gate's word leaves the words of accesses
pub still : (P : ℕ → ℕ → Type 0) (ws : List ℕ) (x m : ℕ) → ((i : ℕ) → i < m → P i (get_or ws (i + FIRST) 0)) → (i : ℕ) → i < m → P i (get_or (set ws 0 x) (i + FIRST) 0)
still P ws x m all i small = subst (P i) (sym (get_or-set_other ws 0 (i + FIRST) x 0 (λ e. absurd (omega arith)))) (all i small)

-- and the count of changes
pub still_count : (ws : List ℕ) (x m : ℕ) → get_or ws CHANGES 0 ≡ m → get_or (set ws 0 x) CHANGES 0 ≡ m
still_count ws x m is = get_or-set_other ws 0 CHANGES x 0 (λ e. absurd (omega arith)) ∙ is

-- a step that changes nothing
pub same_state : (s : St) (id : ℕ) (c : List (ℕ × Option Journal)) (v : View) → get_elem? s.views id ≡ some v → stepped s 0 (get_or s.words 0 0) id c v keeps ≡ s
same_state s id c v at = λ k. record { words = set-get_or s.words 0 0 k; homes = s.homes; views = set_again s.views id v at k }

module _ (key : Charter) where
  -- what stands in a journal beyond that when the office was opened
  pub stretch_back : (t : Stretch) → stretch_of key (present key t) ≡ t
  stretch_back t = ap (stretch t.forgotten) (drop-append_seam (base key) t.later)

  abbrev n : ℕ
  n = key.count

  -- what a seat knows, where entries were added that aren't of its sessions, no fewer are forgotten, and its numbers go to
  -- the seat j
  module _ (now : Stretch) (g : ℕ) (up : now.forgotten ≤ g) (added : List Entry) (owner owner' : ℕ → ℕ) (i j : ℕ) (moves : (k : ℕ) → k < n → owner k ≡ i → (owner' k ≡ j) × (of_session k added ≡ [])) where
    still_own : (k : ℕ) → k < n → owner k ≡ i → of_session k now.later ≡ of_session k (now.later ++ added)
    still_own k small here = sym (own-append k now.later added ∙ (ap (λ xs. of_session k now.later ++ xs) (moves k small here).1 ∙ append-nil (of_session k now.later)))

    abbrev next : Stretch
    next = stretch g (now.later ++ added)

    member_moves : (x : Member) → IsMember key now owner i x → IsMember key next owner' j x
    member_moves x ok = record {
      known = ok.known;
      here = (moves x.number ok.known ok.here).0;
      front = prefix_more x.later now.later added ok.front;
      own = ok.own ∙ still_own x.number ok.known ok.here;
      less = let less = ok.less in omega arith;
    }

    fits_moves : (xs : List Member) → Fits key now owner i xs → Fits key next owner' j xs
    fits_moves [] f = tt
    fits_moves (x ∷ xs) f = (member_moves x f.0, f.1, fits_moves xs f.2)

    unused_moves : (m : ℕ) → IsUnused key now owner i m → IsUnused key next owner' j m
    unused_moves m u k low high = let t = u k low high in ((moves k high t.0).0, sym (still_own k high t.0) ∙ t.1)

    pub knows_moves : (h w h' w' : ℕ) (v : View) → tag v ≢ 5 → Knows key now owner i h w v → Knows key next owner' j h' w' v
    knows_moves h w h' w' Spent not k = tt
    knows_moves h w h' w' (Starting c) not k = absurd k
    knows_moves h w h' w' (Filling c) not k = absurd k
    knows_moves h w h' w' (Giving c m) not k = (k.0, k.1, unused_moves m k.2)
    knows_moves h w h' w' (Sessions c xs) not k = (k.0, fits_moves xs k.1)
    knows_moves h w h' w' (Holding c x t b) not k = absurd (not refl)

  -- a step changes the view of one seat
  pub others : (P Q : ℕ → View → Type 0) (vs : List View) (id : ℕ) (w : View) → ((j : ℕ) (v : View) → get_elem? vs j ≡ some v → P j v) → Q id w → ((j : ℕ) (v : View) → j ≢ id → P j v → Q j v)
      → (j : ℕ) (v : View) → get_elem? (set vs id w) j ≡ some v → Q j v
  others P Q vs id w all mine rest j v e = ⊎_elim (λ (t : (j ≡ id) × (w ≡ v)). subst (λ (z : ℕ × View). Q z.0 z.1) (λ k. (sym t.0 k, t.1 k)) mine) (λ (t : (j ≢ id) × (get_elem? vs j ≡ some v)). rest j v t.0 (all j v t.1)) (at_set vs id j w v e)

  pub holds_word : (now : Stretch) (owner : ℕ → ℕ) (j h w : ℕ) (v : View) → Knows key now owner j h w v → tag v ≡ 5 → (0 < w) × (j ≡ h)
  holds_word now owner j h w Spent k e = absurd (omega arith)
  holds_word now owner j h w (Starting c) k e = absurd k
  holds_word now owner j h w (Filling c) k e = absurd k
  holds_word now owner j h w (Giving c g) k e = absurd (omega arith)
  holds_word now owner j h w (Sessions c xs) k e = absurd (omega arith)
  holds_word now owner j h w (Holding c x t b) k e = (names_some w x.number k.1, k.2)

  -- while the gate is free nobody holds it, so no view speaks of the holder or of the word
  free_knows : (now : Stretch) (owner : ℕ → ℕ) (j h h' w w' : ℕ) → w ≡ 0 → (v : View) → Knows key now owner j h w v → Knows key now owner j h' w' v
  free_knows now owner j h h' w w' free Spent k = tt
  free_knows now owner j h h' w w' free (Starting c) k = absurd k
  free_knows now owner j h h' w w' free (Filling c) k = absurd k
  free_knows now owner j h h' w w' free (Giving c g) k = k
  free_knows now owner j h h' w w' free (Sessions c xs) k = k
  free_knows now owner j h h' w w' free (Holding c x t b) k = let a = names_some w x.number k.1 in absurd (omega arith)

  -- the word may change while it names the same session
  word_knows : (now : Stretch) (owner : ℕ → ℕ) (j h w w' : ℕ) → ((k : ℕ) → Names w k → Names w' k) → (v : View) → Knows key now owner j h w v → Knows key now owner j h w' v
  word_knows now owner j h w w' same Spent k = tt
  word_knows now owner j h w w' same (Starting c) k = absurd k
  word_knows now owner j h w w' same (Filling c) k = absurd k
  word_knows now owner j h w w' same (Giving c g) k = k
  word_knows now owner j h w w' same (Sessions c xs) k = k
  word_knows now owner j h w w' same (Holding c x t b) k = (k.0, same x.number k.1, k.2, k.3, k.4)

  abbrev charter_or : View → Charter
  charter_or (Sessions c xs) = c
  charter_or v = key

  abbrev only : Member → View → Member
  only d (Sessions c (x ∷ xs)) = x
  only d v = d

  -- what was said of a session's view is said however the view is written
  pub as_seen : (P : Charter → Member → Type 0) (i : Member) → P key i → (c : Charter) (x : Member) → Sessions key (i ∷ []) ≡ Sessions c (x ∷ []) → P c x
  as_seen P i p c x e = subst (λ (z : Charter × Member). P z.0 z.1) (λ k. (charter_or (e k), only i (e k))) p

  -- a holder other than the session's own seat shows that there are two sessions
  not_alone : (s : St) (r : Running key s) (id : ℕ) (i : Member) → get_elem? s.views id ≡ some (Sessions key (i ∷ [])) → get_or s.words 0 0 ≢ 0 → key.count ≢ 1
  not_alone s r id i at held one = let h = r.away held in let mine = (r.each_seat id (Sessions key (i ∷ [])) at).1.0 in let theirs = (r.each_seat r.holder (Holding key h.0 r.now r.notes) h.1).4 in
      let a = mine.known in let b = theirs.known in let same : i.number ≡ h.0.number = omega arith in
      let seat : id ≡ r.holder = sym mine.here ∙ (ap r.owner same ∙ theirs.here) in
      let two = ap tag (some-injective _ _ (sym at ∙ (ap (λ (j : ℕ). get_elem? s.views j) seat ∙ h.1))) in absurd (omega arith)

  -- a mark beside the name
  adds_mark : (s : St) (r : Running key s) (id : ℕ) (v : View) → get_or s.words 0 0 ≢ 0 → get_or s.words 0 0 % 2 ≡ 0 → get_elem? s.views id ≡ some v → Running key (stepped s 0 (get_or s.words 0 0 + 1) id [] v keeps)
  adds_mark s r id v held even at = let was : ℕ = get_or s.words 0 0 in let x : ℕ = was + 1 in let wide = r.wide in let now : get_or (set s.words 0 x) 0 0 ≡ x = get_or-set_same s.words 0 x 0 (omega arith) in
      let same : (k : ℕ) → Names was k → Names (get_or (set s.words 0 x) 0 0) k = λ k named. subst (λ (y : ℕ). Names y k) (sym now) (names_marked was k even named) in
      subst (λ (vs : List View). Running key (record { words = set s.words 0 x; homes = s.homes; views = vs })) (sym (set_again s.views id v at)) (record {
        now = r.now;
        owner = r.owner;
        holder = r.holder;
        wide = length-set s.words 0 x ∙ wide;
        deep = r.deep;
        legal = r.legal;
        theirs = r.theirs;
        gone = r.gone;
        at_home = λ z. absurd (omega arith);
        away = λ _. let h = r.away held in (h.0, h.1, same h.0.number h.2);
        each_seat = λ j u e. word_knows r.now r.owner j r.holder was (get_or (set s.words 0 x) 0 0) same u (r.each_seat j u e);
        notes = r.notes;
        tells = still (Tells (fold (begun key) (base key ++ r.now.later))) s.words x key.cells r.tells;
        noted = still (λ i w. Agrees r.notes i w) s.words x key.cells r.noted;
        counted = still_count s.words x (changes r.now.later) r.counted;
      })

  pub marks : (slots id y x : ℕ) (i : Member) → y ≢ 0 → y % 2 ≡ 0 → x ≡ y + 1
      → Allows (Gated key) slots id (Sessions key (i ∷ []), []) 0 (λ n. either (eqb n y) x n) (marked (step slots 0 y x maybe.none) (Sessions key (i ∷ []), []))
  marks slots id y x i some_one even up s g deep at small = let v : View = Sessions key (i ∷ []) in let r = running key s g id v at (omega arith) in let now : ℕ = get_or s.words 0 0 in dite (ℕ_discrete now y)
      (λ e. (
        v,
        keeps,
        tt,
        subst (λ b. Gated key (stepped s 0 (either b x now) id [] v keeps)) (sym (eq-eqb now y e))
            (subst (λ (z : ℕ). Gated key (stepped s 0 z id [] v keeps)) (let z : now + 1 ≡ x = omega arith in z) (inr (inr (adds_mark s r id v (λ z. some_one (sym e ∙ z)) (ap (λ (z : ℕ). z % 2) e ∙ even) at)))),
        refl,
      ))
      (λ ne. (
        v,
        keeps,
        tt,
        subst (λ b. Gated key (stepped s 0 (either b x now) id [] v keeps)) (sym (ne_eqb now y ne)) (subst (Gated key) (sym (same_state s id [] v at)) g),
        refl,
      ))

  takes_out : (s : St) (r : Running key s) (id x : ℕ) (i : Member) → Names x i.number → get_elem? s.views id ≡ some (Sessions key (i ∷ [])) → get_or s.words 0 0 ≡ 0
      → Running key (stepped s 0 x id [] (Holding key i r.now []) (takes 0 (Some (present key r.now))))
  takes_out s r id x i named at free = let up = names_some x i.number named in let w : View = Holding key i r.now [] in let wide = r.wide in let now : get_or (set s.words 0 x) 0 0 ≡ x = get_or-set_same s.words 0 x 0 (omega arith) in let named' : Names (get_or (set s.words 0 x) 0 0) i.number = subst (λ (y : ℕ). Names y i.number) (sym now) named in record {
    now = r.now;
    owner = r.owner;
    holder = id;
    wide = length-set s.words 0 x ∙ wide;
    deep = length-set s.homes 0 maybe.none ∙ r.deep;
    legal = r.legal;
    theirs = r.theirs;
    gone = r.gone;
    at_home = λ z. absurd (omega arith);
    away = λ _. (i, at_here s.views id (Sessions key (i ∷ [])) w at, named');
    each_seat = others (λ j v. Knows key r.now r.owner j r.holder (get_or s.words 0 0) v) (λ j v. Knows key r.now r.owner j id (get_or (set s.words 0 x) 0 0) v) s.views id w r.each_seat
        (refl, named', refl, refl, (r.each_seat id (Sessions key (i ∷ [])) at).1.0)
        (λ j v ne k. free_knows r.now r.owner j r.holder id (get_or s.words 0 0) (get_or (set s.words 0 x) 0 0) free v k);
    notes = [];
    tells = still (Tells (fold (begun key) (base key ++ r.now.later))) s.words x key.cells r.tells;
    noted = λ i small. tt;
    counted = still_count s.words x (changes r.now.later) r.counted;
  }

  pub wins : (slots id x : ℕ) (i : Member) → Names x i.number
      → Allows (Gated key) slots id (Sessions key (i ∷ []), []) 0 (λ y. either (eqb y 0) x y) (won (step slots 0 0 x maybe.none) (Sessions key (i ∷ []), []))
  wins slots id x i up s g deep at small = let v : View = Sessions key (i ∷ []) in let r = running key s g id v at (omega arith) in let now : ℕ = get_or s.words 0 0 in dite (ℕ_discrete now 0)
      (λ free. let w : View = Holding key i r.now [] in let a : Act (Option Journal) = takes 0 (Some (present key r.now)) in let ok = (r.each_seat id v at).1.0 in (
        w,
        a,
        r.at_home free,
        subst (λ b. Gated key (stepped s 0 (either b x now) id [] w a)) (sym (eq-eqb now 0 free)) (inr (inr (takes_out s r id x i up at free))),
        λ c y e. ((λ _. as_seen (λ c y. Taken c y (w, (0, Some (present key r.now)) ∷ [])) i (r.now, refl, record { front = ok.front; own = ok.own; less = ok.less }) c y e), λ held. absurd (held free)),
      ))
      (λ held. (
        v,
        keeps,
        tt,
        subst (λ b. Gated key (stepped s 0 (either b x now) id [] v keeps)) (sym (ne_eqb now 0 held)) (subst (Gated key) (sym (same_state s id [] v at)) g),
        λ c y e. ((λ free. absurd (held free)), λ _. (refl, as_seen (λ c y. c.count ≢ 1) i (not_alone s r id i at held) c y e)),
      ))

  -- the holder puts the monitor home, and has the view x from then on
  puts_home : (s : St) (r : Running key s) (id : ℕ) (i x : Member) (t : Stretch) → get_elem? s.views id ≡ some (Holding key i t []) → IsMember key r.now r.owner id x
      → Running key (stepped s 0 0 id ((0, Some (present key r.now)) ∷ []) (Sessions key (x ∷ [])) gives)
  puts_home s r id i x t at ok = let w : View = Sessions key (x ∷ []) in let wide = r.wide in let deep = r.deep in let mine = r.each_seat id (Holding key i t []) at in
      let none : (k : ℕ) → of_session k [] ≡ [] = λ k. refl in let same : with_more r.now [] ≡ r.now = ap (stretch r.now.forgotten) (append-nil r.now.later) in record {
        now = r.now;
        owner = r.owner;
        holder = r.holder;
        wide = length-set s.words 0 0 ∙ wide;
        deep = length-set s.homes 0 (some (Some (present key r.now))) ∙ deep;
        legal = r.legal;
        theirs = r.theirs;
        gone = r.gone;
        at_home = λ _. set_here s.homes 0 (some (Some (present key r.now))) (omega arith);
        away = λ held. absurd (held (get_or-set_same s.words 0 0 0 (omega arith)));
        each_seat = others (λ j v. Knows key r.now r.owner j r.holder (get_or s.words 0 0) v) (λ j v. Knows key r.now r.owner j r.holder (get_or (set s.words 0 0) 0 0) v) s.views id w r.each_seat
            (refl, (ok, tt, tt))
            (λ j v ne k. subst (λ es. Knows key es r.owner j r.holder (get_or (set s.words 0 0) 0 0) v) same (knows_moves r.now r.now.forgotten (le_refl r.now.forgotten) [] r.owner r.owner j j (λ m small here. (here, refl))
            r.holder (get_or s.words 0 0) r.holder (get_or (set s.words 0 0) 0 0) v (λ five. ne ((holds_word r.now r.owner j r.holder (get_or s.words 0 0) v k five).1 ∙ sym mine.2)) k));
        notes = [];
        tells = still (Tells (fold (begun key) (base key ++ r.now.later))) s.words 0 key.cells r.tells;
        noted = λ i small. tt;
        counted = still_count s.words 0 (changes r.now.later) r.counted;
      }

  module _ (slots id : ℕ) (i : Member) (t : Stretch) (m : Journal) (is : m ≡ present key t) where
    abbrev out : List (ℕ × Option Journal)
    out = (0, Some m) ∷ []

    pub updates : Allows (Gated key) slots id (Holding key i t [], out) 0 (λ _. 0) (λ _. updated (step slots 0 0 0 maybe.none) (Holding key i t [], out) 0)
    updates s g deep at small = let v : View = Holding key i t [] in let r = running key s g id v at (omega arith) in let mine = r.each_seat id v at in
        let is' : m ≡ present key r.now = is ∙ ap (present key) mine.3 in
        let seen : stretch_of key m ≡ r.now = ap (stretch_of key) is' ∙ stretch_back r.now in
        let home = puts_home s r id i (member i.number r.now) t at
        record { known = mine.4.known; here = mine.4.here; front = prefix_refl r.now.later; own = refl; less = le_refl r.now.forgotten } in (
          updated_view v out,
          gives,
          tt,
          subst (λ (z : Journal × Stretch). Gated key (stepped s 0 0 id ((0, Some z.0) ∷ []) (Sessions key (member i.number z.1 ∷ [])) gives)) (λ k. (sym is' k, sym seen k)) (inr (inr home)),
          refl,
        )

    pub keeps_seen : Allows (Gated key) slots id (Holding key i t [], out) 0 (λ _. 0) (λ _. kept (step slots 0 0 0 maybe.none) (Holding key i t [], out) 0)
    keeps_seen s g deep at small = let v : View = Holding key i t [] in let r = running key s g id v at (omega arith) in let mine = r.each_seat id v at in
        let is' : m ≡ present key r.now = is ∙ ap (present key) mine.3 in
        let home = puts_home s r id i i t at mine.4 in (
          kept_view v,
          gives,
          tt,
          subst (λ (b : Journal). Gated key (stepped s 0 0 id ((0, Some b) ∷ []) (Sessions key (i ∷ [])) gives)) (sym is') (inr (inr home)),
          (refl, ap (λ (b : Journal). (0, Some b) ∷ []) is),
        )

  -- the office is opened: the empty slot is taken, and the monitor is put home
  pub starts : Gated key (opening (0 ∷ replicate (key.cells + (FIRST - 1)) 0) (replicate 1 None) (Starting key))
  starts = inl refl

  pub starts_with : (ws : List ℕ) → ws ≡ replicate (key.cells + FIRST) 0 → Gated key (opening ws (replicate 1 None) (Starting key))
  starts_with ws is = let up : key.cells + FIRST ≡ suc (key.cells + (FIRST - 1)) = omega arith in subst (λ (xs : List ℕ). Gated key (opening xs (replicate 1 None) (Starting key))) (sym (is ∙ ap (λ (m : ℕ). replicate m 0) up)) starts

  abbrev empty : St
  empty = record { words = 0 ∷ replicate (key.cells + (FIRST - 1)) 0; homes = some None ∷ []; views = Starting key ∷ [] }

  abbrev filling : St
  filling = record { words = 2 ∷ replicate (key.cells + (FIRST - 1)) 0; homes = maybe.none ∷ []; views = Filling key ∷ [] }

  module _ (slots : ℕ) where
    abbrev Fills : ℕ → St → Type 0
    Fills j s = (w : View) × (a : Act (Option Journal)) × Valid s.homes [] a × Gated key (stepped s 0 (either (eqb (get_or s.words 0 0) 0) 2 (get_or s.words 0 0)) j [] w a) × filled (step slots 0 0 2 maybe.none) (Starting key, []) (get_or s.words 0 0) (w, carried_after [] a)

    fills_first : Fills 0 empty
    fills_first = (Filling key, takes 0 None, refl, inr (inl refl), λ c e. λ k. (Filling (start_of key (e k)), (0, None) ∷ []))

    pub fills : (id : ℕ) → Allows (Gated key) slots id (Starting key, []) 0 (λ y. either (eqb y 0) 2 y) (filled (step slots 0 0 2 maybe.none) (Starting key, []))
    fills id s g deep at small = ⊎_elim
        (λ (e : IsEmpty key s). let now = subst (λ (t : St). get_elem? t.views id ≡ some (Starting key)) e at in
        subst (Fills id) (sym e) (subst (λ (j : ℕ). Fills j empty) (sym (one_id (Starting key) (Starting key) id now)) fills_first))
        (⊎_elim
        (λ (e : IsFilling key s). let was = ap tag (one_view (Filling key) (Starting key) id (subst (λ (t : St). get_elem? t.views id ≡ some (Starting key)) e at)) in absurd (omega arith))
        (λ (r : Running key s). absurd (r.each_seat id (Starting key) at))) g

    module _ (m : Journal) (is : m ≡ journal (begun key) key.forgotten (base key)) (legal : Stands m.start m.entries) where
      abbrev home : St
      home = record { words = 0 ∷ replicate (key.cells + (FIRST - 1)) 0; homes = some (Some m) ∷ []; views = Giving key n ∷ [] }

      at_start : m ≡ present key (opened key)
      at_start = is ∙ ap (journal (begun key) key.forgotten) (sym (append-nil (base key)))

      home_running : Running key home
      home_running = record {
        now = opened key;
        owner = λ _. 0;
        holder = 0;
        wide = ap suc (length-replicate (key.cells + (FIRST - 1)) 0) ∙ (let up : suc (key.cells + (FIRST - 1)) ≡ key.cells + FIRST = omega arith in up);
        deep = refl;
        legal = subst (λ (b : Journal). Stands b.start b.entries) at_start legal;
        theirs = tt;
        gone = record { more = le_refl key.forgotten; same = λ _. refl };
        at_home = λ _. ap (λ (b : Journal). some (some (Some b))) at_start;
        away = λ held. absurd (held refl);
        each_seat = λ j v e. subst (λ (z : ℕ × View). Knows key (opened key) (λ _. 0) z.0 0 0 z.1) (λ k. (sym (one_id (Giving key n) v j e) k, one_view (Giving key n) v j e k)) (refl, le_refl n, λ _ _ _. (refl, refl));
        notes = [];
        tells = λ i small known. let zeros : List ℕ = 0 ∷ replicate (key.cells + (FIRST - 1)) 0 in let up : suc (i + (FIRST - 1)) ≡ i + FIRST = omega arith in
            absurd (known (subst (λ (k : ℕ). get_or zeros k 0 ≡ 0) up (get_or-replicate {A = ℕ} (key.cells + (FIRST - 1)) (i + (FIRST - 1)) 0 0 (omega arith))));
        noted = λ i small. tt;
        counted = let zeros : List ℕ = 0 ∷ replicate (key.cells + (FIRST - 1)) 0 in let up : suc (CHANGES - 1) ≡ CHANGES = omega arith in
            subst (λ (k : ℕ). get_or zeros k 0 ≡ 0) up (get_or-replicate {A = ℕ} (key.cells + (FIRST - 1)) (CHANGES - 1) 0 0 (omega arith));
      }

      abbrev Settles : ℕ → St → Type 0
      Settles j s = (w : View) × (a : Act (Option Journal)) × Valid s.homes ((0, Some m) ∷ []) a × Gated key (stepped s 0 0 j ((0, Some m) ∷ []) w a) × settled (step slots 0 0 0 maybe.none) (Filling key, (0, Some m) ∷ []) 0 (w, carried_after ((0, Some m) ∷ []) a)

      settles_first : Settles 0 filling
      settles_first = (Giving key n, gives, tt, inr (inr home_running), λ c e. λ k. let d : Charter = start_of key (e k) in (Giving d d.count, []))

      pub settles : (id : ℕ) → Allows (Gated key) slots id (Filling key, (0, Some m) ∷ []) 0 (λ _. 0) (λ _. settled (step slots 0 0 0 maybe.none) (Filling key, (0, Some m) ∷ []) 0)
      settles id s g deep at small = ⊎_elim
          (λ (e : IsEmpty key s). let was = ap tag (one_view (Starting key) (Filling key) id (subst (λ (t : St). get_elem? t.views id ≡ some (Filling key)) e at)) in absurd (omega arith))
          (⊎_elim
          (λ (e : IsFilling key s). let now = subst (λ (t : St). get_elem? t.views id ≡ some (Filling key)) e at in
          subst (Settles id) (sym e) (subst (λ (j : ℕ). Settles j filling) (sym (one_id (Filling key) (Filling key) id now)) settles_first))
          (λ (r : Running key s). absurd (r.each_seat id (Filling key) at))) g

  -- the same, of the seat as it is
  pub wins_at : (slots id x : ℕ) (me : Seat) → me ≡ seated key (member_of me.0) → Names x (member_of me.0).number
      → Allows (Gated key) slots id me 0 (λ y. either (eqb y 0) x y) (won (step slots 0 0 x maybe.none) me)
  wins_at slots id x me is up = subst (λ (m : Seat). Allows (Gated key) slots id m 0 (λ y. either (eqb y 0) x y) (won (step slots 0 0 x maybe.none) m)) (sym is) (wins slots id x (member_of me.0) up)

  pub marks_at : (slots id y x : ℕ) (me : Seat) → me ≡ seated key (member_of me.0) → y ≢ 0 → y % 2 ≡ 0 → x ≡ y + 1
      → Allows (Gated key) slots id me 0 (λ n. either (eqb n y) x n) (marked (step slots 0 y x maybe.none) me)
  marks_at slots id y x me is some_one even up = subst (λ (m : Seat). Allows (Gated key) slots id m 0 (λ n. either (eqb n y) x n) (marked (step slots 0 y x maybe.none) m)) (sym is) (marks slots id y x (member_of me.0) some_one even up)

  -- what the holder's view is once a monitor with this journal is home
  pub comes_home : (v : View) → v ≡ Holding key (member_of v) (taken_of v) [] → (m : Journal) (t : Stretch) → m ≡ present key t → (updated_view v ((0, Some m) ∷ []), []) ≡ seated key (member (member_of v).number t)
  comes_home v is m t home = ap (λ (w : View). (updated_view w ((0, Some m) ∷ []), [])) is ∙ ap (λ (z : Stretch). seated key (member (member_of v).number z)) (ap (stretch_of key) home ∙ stretch_back t)

  -- the holder's view, as it is
  module _ (slots id : ℕ) (v : View) (is : v ≡ Holding key (member_of v) (taken_of v) []) (m : Journal) (took : m ≡ present key (taken_of v)) where
    abbrev i : Member
    i = member_of v

    abbrev t : Stretch
    t = taken_of v

    module _ (m' : Journal) (added : List Entry) (adds : m' ≡ journal m.start m.forgotten (m.entries ++ added)) where
      pub grown_is : m' ≡ present key (with_more t added)
      grown_is = adds ∙ (ap (λ (b : Journal). journal b.start b.forgotten (b.entries ++ added)) took ∙ ap (journal (begun key) t.forgotten) (append_assoc (base key) t.later added))

      pub grows_as : (updated_view v ((0, Some m') ∷ []), []) ≡ seated key (member i.number (with_more t added))
      grows_as = comes_home v is m' (with_more t added) grown_is

    module _ (m' : Journal) (e : Entry) (adds : m' ≡ journal m.start m.forgotten (m.entries ++ e ∷ [])) where
      pub longer_is : m' ≡ present key (with_more t (e ∷ []))
      longer_is = grown_is m' (e ∷ []) adds

      pub records_as : (updated_view v ((0, Some m') ∷ []), []) ≡ seated key (member i.number (with_more t (e ∷ [])))
      records_as = grows_as m' (e ∷ []) adds

    pub stays_at : Allows (Gated key) slots id (v, (0, Some m) ∷ []) 0 (λ _. 0) (λ _. kept (step slots 0 0 0 maybe.none) (v, (0, Some m) ∷ []) 0)
    stays_at = subst (λ (w : View). Allows (Gated key) slots id (w, (0, Some m) ∷ []) 0 (λ _. 0) (λ _. kept (step slots 0 0 0 maybe.none) (w, (0, Some m) ∷ []) 0)) (sym is) (keeps_seen slots id i t m took)

    pub looks_as : (updated_view v ((0, Some m) ∷ []), []) ≡ seated key (member i.number t)
    looks_as = comes_home v is m t took

  pub fills_at : (slots id : ℕ) (me : Seat) → me ≡ (Starting key, []) → Allows (Gated key) slots id me 0 (λ y. either (eqb y 0) 2 y) (filled (step slots 0 0 2 maybe.none) me)
  fills_at slots id me is = subst (λ (m : Seat). Allows (Gated key) slots id m 0 (λ y. either (eqb y 0) 2 y) (filled (step slots 0 0 2 maybe.none) m)) (sym is) (fills slots id)

  pub settles_at : (slots id : ℕ) (v : View) (m : Journal) → m ≡ journal (begun key) key.forgotten (base key) → Stands m.start m.entries → v ≡ Filling key
      → Allows (Gated key) slots id (v, (0, Some m) ∷ []) 0 (λ _. 0) (λ _. settled (step slots 0 0 0 maybe.none) (v, (0, Some m) ∷ []) 0)
  settles_at slots id v m is legal at = subst (λ (w : View). Allows (Gated key) slots id (w, (0, Some m) ∷ []) 0 (λ _. 0) (λ _. settled (step slots 0 0 0 maybe.none) (w, (0, Some m) ∷ []) 0)) (sym at) (settles slots m is legal id)
