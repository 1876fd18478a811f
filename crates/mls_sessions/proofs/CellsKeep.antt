-- Reading a word of accesses with no lock, and writing one, keep the gate's rule.
use Rattle.std.proofs.Common.{le_refl, true, ◌≡◌, ◌≢◌, ℕ, zero, suc, ◌+◌, ◌-◌, ◌%◌, ◌^◌, ◌<◌, ◌≤◌, List, [], ◌∷◌, ◌++◌, get_or, set, refl, sym, ap, ◌∙◌, subst, inr, arith, append-nil, length, length-append, length-set, get_or-set_same, get_or-set_other, Option, Some, None}
use mathlib.Core.Logic.{dite}
use mathlib.Core.Option.{some, some-injective}
use mathlib.Core.Option as maybe
use mathlib.Core.List.{IsPrefix}
use native.Mathlib.Decide.{ℕ_discrete}
use lib.ListN.{get_elem?}
use lib.Seq.{set-get_or}
use Rattle.atomic_table.specs.Table.{keeps, step, homes_after, Allows}
use Rattle.atomic_table.proofs.Lists.{set_else, set_again}
use Rattle.mls_state.specs.State.{State}
use Rattle.mls_requests.specs.declared.entry.Entry.{Entry}
use Rattle.mls_monitor.specs.Journal.{fold}
use Rattle.mls_monitor.specs.Entries.{of_session, AllBelow, AllOf}
use Rattle.mls_sessions.specs.Cells.{Tells, OneWord, Agrees, Quiet, note}
use Rattle.mls_sessions.specs.Changes.{changes}
use Rattle.mls_sessions.specs.declared.gate_table.Note.{Note}
use Rattle.mls_sessions.specs.declared.limits.TheConstants.{CHANGES, FIRST}
use Rattle.mls_sessions.specs.Journals.{Charter}
use Rattle.mls_turns.specs.Journals.{Stands, Journal}
use Rattle.mls_sessions.specs.Rule.{member, base, begun, stretch, with_more, present, stretch_of, Names, MayForget, IsMember, Knows, Running, Gated}
use Rattle.mls_sessions.specs.declared.gate_table.Stretch.{Stretch}
use Rattle.mls_sessions.specs.Steps.{Seat, Glimpsed, glanced, Tallied, tallied, read, noted_view, published, published_view, blanked, updated}
use Rattle.mls_sessions.specs.declared.counts.Counts.{Counts}
use Rattle.mls_sessions.specs.declared.gate_table.Member.{Member}
use Rattle.mls_sessions.specs.declared.gate_table.View.{View}
use Rattle.mls_sessions.specs.declared.gate_table.View.TheVariants.{Sessions, Holding}
use Rattle.mls_sessions.specs.Sessions.{member_of, taken_of, notes_of, seated, holding, noting, Holds, Sees, history, forgotten_seen, own, number_of, IsCounted, changes_seen}
use Rattle.mls_sessions.proofs.Lasting.{changes-append, changes_few}
use Rattle.mls_sessions.proofs.OwnEntries.{prefix_refl, below-append, below-all, own-none, prefix_after}
use Rattle.mls_sessions.proofs.StepsKeep.{St, tag, stretch_back, updates, running, others, at_here, names_some, as_seen, knows_moves, holds_word}

-- a view that is set twice
set_twice : (vs : List View) (id : ℕ) (x y : View) → set (set vs id x) id y ≡ set vs id y
set_twice [] id x y = refl
set_twice (v ∷ vs) zero x y = refl
set_twice (v ∷ vs) (suc id) x y = ap (λ ws. v ∷ ws) (set_twice vs id x y)

module _ (key : Charter) where
  abbrev n : ℕ
  n = key.count

  abbrev now : List Entry → State
  now es = fold (begun key) (base key ++ es)

  abbrev charter_held : View → Charter
  charter_held (Holding c m t b) = c
  charter_held v = key

  -- a session has seen all
  sees_all : (s : St) (r : Running key s) (id : ℕ) (m : Member) → get_elem? s.views id ≡ some (Sessions key (m ∷ []))
      → Running key (record { words = s.words; homes = s.homes; views = set s.views id (Sessions key (member m.number r.now ∷ [])) })
  sees_all s r id m at = let w : View = Sessions key (member m.number r.now ∷ []) in let word : ℕ = get_or s.words 0 0 in let mine = (r.each_seat id (Sessions key (m ∷ [])) at).1.0 in record {
    now = r.now;
    owner = r.owner;
    holder = r.holder;
    notes = r.notes;
    wide = r.wide;
    deep = r.deep;
    legal = r.legal;
    theirs = r.theirs;
    gone = r.gone;
    at_home = r.at_home;
    away = λ held. let h = r.away held in
        let ne : r.holder ≢ id = λ e. (let z = ap tag (some-injective _ _ (sym at ∙ (ap (λ (j : ℕ). get_elem? s.views j) (sym e) ∙ h.1))) in absurd (omega arith)) in
        (h.0, set_else s.views id r.holder w ne ∙ h.1, h.2);
    each_seat = others key (λ j v. Knows key r.now r.owner j r.holder word v) (λ j v. Knows key r.now r.owner j r.holder word v) s.views id w r.each_seat
        (refl, (record { known = mine.known; here = mine.here; front = prefix_refl r.now.later; own = refl; less = le_refl r.now.forgotten }, tt, tt))
        (λ j v ne kn. kn);
    tells = r.tells;
    noted = r.noted;
    counted = r.counted;
  }

  -- a word is read with no lock
  pub glances : (slots id i : ℕ) (m : Member) → i < key.cells → Allows (Gated key) slots id (Sessions key (m ∷ []), []) (i + FIRST) (λ x. x) (glanced (step slots (i + FIRST) 0 0 maybe.none) (Sessions key (m ∷ []), []))
  glances slots id i m within s g deep at small = let v : View = Sessions key (m ∷ []) in let r = running key s g id v at (omega arith) in let mine = (r.each_seat id v at).1.0 in
      let found : ℕ = get_or s.words (i + FIRST) 0 in let same : set s.words (i + FIRST) found ≡ s.words = set-get_or s.words (i + FIRST) 0 in let w : View = Sessions key (member m.number r.now ∷ []) in
      let here : i ≡ (i + FIRST) - FIRST = omega arith in dite (ℕ_discrete found 0)
      (λ none. (
        v,
        keeps,
        tt,
        subst (Gated key) (sym (λ z. record { words = same z; homes = s.homes; views = set_again s.views id v at z })) g,
        λ c x e. ((λ _. refl), λ word. absurd (word none)),
      ))
      (λ word. (
        w,
        keeps,
        tt,
        subst (λ (ws : List ℕ). Gated key (record { words = ws; homes = s.homes; views = set s.views id w })) (sym same) (inr (inr (sees_all s r id m at))),
        λ c x e. (
          (λ none. absurd (word none)),
          λ _. as_seen key (λ c x. Glimpsed c x ((i + FIRST) - FIRST) found (w, [])) m
              (r.now, refl, record { front = mine.front; own = mine.own; less = mine.less }, r.legal, subst (λ (k : ℕ). Tells (now r.now.later) k found) here (r.tells i within)) c x e,
        ),
      ))

  pub glances_at : (slots id i : ℕ) (me : Seat) → me ≡ seated key (member_of me.0) → i < key.cells → Allows (Gated key) slots id me (i + FIRST) (λ x. x) (glanced (step slots (i + FIRST) 0 0 maybe.none) me)
  glances_at slots id i me is within = subst (λ (m : Seat). Allows (Gated key) slots id m (i + FIRST) (λ x. x) (glanced (step slots (i + FIRST) 0 0 maybe.none) m)) (sym is) (glances slots id i (member_of me.0) within)

  -- the count of changes is read with no lock
  tallies : (slots id : ℕ) (m : Member) → Allows (Gated key) slots id (Sessions key (m ∷ []), []) CHANGES (λ x. x) (tallied (step slots CHANGES 0 0 maybe.none) (Sessions key (m ∷ []), []))
  tallies slots id m s g deep at small = let v : View = Sessions key (m ∷ []) in let r = running key s g id v at (omega arith) in let mine = (r.each_seat id v at).1.0 in
      let found : ℕ = get_or s.words CHANGES 0 in let same : set s.words CHANGES found ≡ s.words = set-get_or s.words CHANGES 0 in let w : View = Sessions key (member m.number r.now ∷ []) in (
        w,
        keeps,
        tt,
        subst (λ (ws : List ℕ). Gated key (record { words = ws; homes = s.homes; views = set s.views id w })) (sym same) (inr (inr (sees_all s r id m at))),
        λ c x e. as_seen key (λ c x. Tallied c x found (w, [])) m (r.now, refl, record { front = mine.front; own = mine.own; less = mine.less }, r.legal, r.counted) c x e,
      )

  pub tallies_at : (slots id : ℕ) (me : Seat) → me ≡ seated key (member_of me.0) → Allows (Gated key) slots id me CHANGES (λ x. x) (tallied (step slots CHANGES 0 0 maybe.none) me)
  tallies_at slots id me is = subst (λ (m : Seat). Allows (Gated key) slots id m CHANGES (λ x. x) (tallied (step slots CHANGES 0 0 maybe.none) m)) (sym is) (tallies slots id (member_of me.0))

  -- a step of the holder that frees nothing, with entries more, and with as many forgotten as may be
  holder_steps : (s : St) (r : Running key s) (id : ℕ) (i : Member) (t : Stretch) (g : ℕ) (added : List Entry) (b b' : List Note) (ws : List ℕ) → get_elem? s.views id ≡ some (Holding key i t b)
      → length ws ≡ key.cells + FIRST → get_or ws 0 0 ≡ get_or s.words 0 0
      → ((k : ℕ) → k ≢ i.number → of_session k added ≡ []) → AllBelow n added → Stands (begun key) (base key ++ (r.now.later ++ added)) → r.now.forgotten ≤ g → MayForget key g
      → (j : Member) → j.number ≡ i.number → IsMember key (stretch g (r.now.later ++ added)) r.owner id j
      → ((p : ℕ) → p < key.cells → Tells (now (r.now.later ++ added)) p (get_or ws (p + FIRST) 0))
      → ((p : ℕ) → p < key.cells → Agrees b' p (get_or ws (p + FIRST) 0))
      → get_or ws CHANGES 0 ≡ changes (r.now.later ++ added)
      → Running key (record { words = ws; homes = s.homes; views = set s.views id (Holding key j (stretch g (r.now.later ++ added)) b') })
  holder_steps s r id i t g added b b' ws here wide first mine_only few legal up may j number ok tells noted counted = let es : Stretch = stretch g (r.now.later ++ added) in let w : View = Holding key j es b' in let mine = r.each_seat id (Holding key i t b) here in
      let named : Names (get_or ws 0 0) j.number = subst (λ (z : ℕ × ℕ). Names z.0 z.1) (λ k. (sym first k, sym number k)) mine.1 in let some_one = names_some (get_or ws 0 0) j.number named in record {
        now = es;
        owner = r.owner;
        holder = r.holder;
        notes = b';
        wide = wide;
        deep = r.deep;
        legal = legal;
        theirs = below-append n r.now.later added r.theirs few;
        gone = may;
        at_home = λ z. absurd (omega arith);
        away = λ _. (j, subst (λ (h : ℕ). get_elem? (set s.views id w) h ≡ some w) mine.2 (at_here s.views id (Holding key i t b) w here), named);
        each_seat = others key (λ j v. Knows key r.now r.owner j r.holder (get_or s.words 0 0) v) (λ j v. Knows key es r.owner j r.holder (get_or ws 0 0) v) s.views id w r.each_seat
            (refl, named, mine.2, refl, ok)
            (λ j v ne k. knows_moves key r.now g up added r.owner r.owner j j
            (λ m small seat. (seat, mine_only m (λ same. ne (sym seat ∙ (ap r.owner same ∙ mine.4.here)))))
            r.holder (get_or s.words 0 0) r.holder (get_or ws 0 0) v (λ five. ne ((holds_word key r.now r.owner j r.holder (get_or s.words 0 0) v k five).1 ∙ sym mine.2)) k);
        tells = tells;
        noted = noted;
        counted = counted;
      }

  -- the same where no entry is made
  holder_stays : (s : St) (r : Running key s) (id : ℕ) (i : Member) (t : Stretch) (b b' : List Note) (ws : List ℕ) → get_elem? s.views id ≡ some (Holding key i t b)
      → length ws ≡ key.cells + FIRST → get_or ws 0 0 ≡ get_or s.words 0 0
      → ((p : ℕ) → p < key.cells → Tells (now t.later) p (get_or ws (p + FIRST) 0))
      → ((p : ℕ) → p < key.cells → Agrees b' p (get_or ws (p + FIRST) 0))
      → get_or ws CHANGES 0 ≡ get_or s.words CHANGES 0
      → Running key (record { words = ws; homes = s.homes; views = set s.views id (Holding key i t b') })
  holder_stays s r id i t b b' ws here wide first tells noted count = let mine = r.each_seat id (Holding key i t b) here in
      let whole : with_more r.now [] ≡ t = ap (stretch r.now.forgotten) (append-nil r.now.later) ∙ sym mine.3 in
      subst (λ (es : Stretch). Running key (record { words = ws; homes = s.homes; views = set s.views id (Holding key i es b') })) whole
      (holder_steps s r id i t r.now.forgotten [] b b' ws here wide first (λ k ne. refl) tt (subst (λ es. Stands (begun key) (base key ++ es)) (sym (append-nil r.now.later)) r.legal) (le_refl r.now.forgotten) r.gone i refl
      (subst (λ (es : Stretch). IsMember key es r.owner id i) (sym (ap (stretch r.now.forgotten) (append-nil r.now.later))) mine.4)
      (λ p small. subst (λ (es : Stretch). Tells (now es.later) p (get_or ws (p + FIRST) 0)) (sym whole) (tells p small)) noted (count ∙ (r.counted ∙ ap changes (sym (append-nil r.now.later)))))

  -- what the rule says of the words, by the holder's own view
  tells_now : (s : St) (r : Running key s) (id : ℕ) (i : Member) (t : Stretch) (b : List Note) → get_elem? s.views id ≡ some (Holding key i t b) → (p : ℕ) → p < key.cells → Tells (now t.later) p (get_or s.words (p + FIRST) 0)
  tells_now s r id i t b here p small = let mine = r.each_seat id (Holding key i t b) here in subst (λ (es : Stretch). Tells (now es.later) p (get_or s.words (p + FIRST) 0)) (sym mine.3) (r.tells p small)

  same_notes : (s : St) (r : Running key s) (id : ℕ) (i : Member) (t : Stretch) (b : List Note) → get_elem? s.views id ≡ some (Holding key i t b) → b ≡ r.notes
  same_notes s r id i t b here = let mine = r.each_seat id (Holding key i t b) here in let up = names_some (get_or s.words 0 0) i.number mine.1 in
      let h = r.away (λ z. (let f : ⊥ = absurd (omega arith) in f)) in ap notes_of (some-injective _ _ (sym here ∙ (ap (λ (j : ℕ). get_elem? s.views j) mine.2 ∙ h.1)))

  noted_now : (s : St) (r : Running key s) (id : ℕ) (i : Member) (t : Stretch) (b : List Note) → get_elem? s.views id ≡ some (Holding key i t b) → (p : ℕ) → p < key.cells → Agrees b p (get_or s.words (p + FIRST) 0)
  noted_now s r id i t b here p few = subst (λ (ns : List Note). Agrees ns p (get_or s.words (p + FIRST) 0)) (sym (same_notes s r id i t b here)) (r.noted p few)

  module _ (slots id : ℕ) (i : Member) (t : Stretch) (b : List Note) (out : List (ℕ × Option Journal)) where
    abbrev v : View
    v = Holding key i t b

    -- the place by which a step names it
    named_as : (at x : ℕ) → ◌≡◌ {A = Seat} (Holding key i t (note at x ∷ b), out) (Holding key i t (note ((at + FIRST) - FIRST) x ∷ b), out)
    named_as at x = let place_is : at ≡ (at + FIRST) - FIRST = omega arith in ap (λ (p : ℕ). (Holding key i t (note p x ∷ b), out)) place_is

    -- the holder reads a word
    reads : (at : ℕ) → at < key.cells → Allows (Gated key) slots id (v, out) (at + FIRST) (λ x. x) (read (step slots (at + FIRST) 0 0 maybe.none) (v, out))
    reads at within s g deep here small = let r = running key s g id v here (omega arith) in let found : ℕ = get_or s.words (at + FIRST) 0 in let w : View = Holding key i t (note at found ∷ b) in
        let same : set s.words (at + FIRST) found ≡ s.words = set-get_or s.words (at + FIRST) 0 in let place_is : at ≡ (at + FIRST) - FIRST = omega arith in (
          w,
          keeps,
          tt,
          subst (λ (ws : List ℕ). Gated key (record { words = ws; homes = s.homes; views = set s.views id w })) (sym same)
              (inr (inr (holder_stays s r id i t b (note at found ∷ b) s.words here r.wide refl (tells_now s r id i t b here)
              (λ p few. ((λ (e : p ≡ at). ap (λ (q : ℕ). get_or s.words (q + FIRST) 0) e), λ ne. noted_now s r id i t b here p few)) refl))),
          (
            named_as at found,
            λ c m taken k e. subst (λ (z : Charter × Stretch × List Note). Tells (fold (begun z.0) (base z.0 ++ z.1.later)) ((at + FIRST) - FIRST) found × Agrees z.2 ((at + FIRST) - FIRST) found) (λ j. (charter_held (e j), taken_of (e j), notes_of (e j)))
                (subst (λ (p : ℕ). Tells (now t.later) p found × Agrees b p found) place_is (tells_now s r id i t b here at within, noted_now s r id i t b here at within)),
          ),
        )

    -- the holder makes a word blank
    blanks : (at : ℕ) → at < key.cells → Allows (Gated key) slots id (v, out) (at + FIRST) (λ _. 0) (λ _. blanked (step slots (at + FIRST) 0 0 maybe.none) (v, out) 0)
    blanks at within s g deep here small = let r = running key s g id v here (omega arith) in let ws : List ℕ = set s.words (at + FIRST) 0 in let wide = r.wide in
        let is : get_or ws (at + FIRST) 0 ≡ 0 = get_or-set_same s.words (at + FIRST) 0 0 (omega arith) in (
          Holding key i t (note at 0 ∷ b),
          keeps,
          tt,
          inr (inr (holder_stays s r id i t b (note at 0 ∷ b) ws here (length-set s.words (at + FIRST) 0 ∙ wide) (get_or-set_other s.words (at + FIRST) 0 0 0 (λ e. absurd (omega arith)))
              (λ p few. dite (ℕ_discrete p at)
              (λ (e : p ≡ at). λ known. absurd (known (ap (λ (q : ℕ). get_or ws (q + FIRST) 0) e ∙ is)))
              (λ ne. subst (Tells (now t.later) p) (sym (get_or-set_other s.words (at + FIRST) (p + FIRST) 0 0 (λ e. ne (omega arith)))) (tells_now s r id i t b here p few)))
              (λ p few. (
                (λ (e : p ≡ at). ap (λ (q : ℕ). get_or ws (q + FIRST) 0) e ∙ is),
                λ ne. subst (Agrees b p) (sym (get_or-set_other s.words (at + FIRST) (p + FIRST) 0 0 (λ e. ne (omega arith)))) (noted_now s r id i t b here p few),
              ))
              (get_or-set_other s.words (at + FIRST) CHANGES 0 0 (λ e. absurd (omega arith))))),
          named_as at 0,
        )

  module _ (slots id : ℕ) (i : Member) (t : Stretch) (lost : ℕ) (added : List Entry) (b : List Note) (m : Journal) (legal : Stands m.start m.entries) (is : m ≡ present key (stretch lost (t.later ++ added))) (up : t.forgotten ≤ lost)
      (lasts : key.lasts ≡ true → lost ≡ t.forgotten) (mine_only : (k : ℕ) → k ≢ i.number → of_session k added ≡ []) (few : i.number < n → AllBelow n added) where
    abbrev held : View
    held = Holding key i t b

    abbrev laid : List (ℕ × Option Journal)
    laid = (0, Some m) ∷ []

    -- no fewer are forgotten than were, and so many as may be
    no_fewer : (s : St) (r : Running key s) → get_elem? s.views id ≡ some held → r.now.forgotten ≤ lost
    no_fewer s r here = subst (λ (z : Stretch). z.forgotten ≤ lost) (r.each_seat id held here).3 up

    may_now : (s : St) (r : Running key s) → get_elem? s.views id ≡ some held → MayForget key lost
    may_now s r here = let less = no_fewer s r here in let more = r.gone.more in record {
      more = omega arith;
      same = λ last. lasts last ∙ (ap (λ (z : Stretch). z.forgotten) (r.each_seat id held here).3 ∙ r.gone.same last);
    }

    -- the entries are in the journal, with these words
    publish : (s : St) (r : Running key s) → get_elem? s.views id ≡ some held → (ws : List ℕ) → length ws ≡ key.cells + FIRST → get_or ws 0 0 ≡ get_or s.words 0 0
        → ((p : ℕ) → p < key.cells → Tells (now (t.later ++ added)) p (get_or ws (p + FIRST) 0)) → get_or ws CHANGES 0 ≡ changes (t.later ++ added)
        → Gated key (record { words = ws; homes = s.homes; views = set s.views id (published_view held laid) })
    publish s r here ws wide first tells count = let mine = r.each_seat id held here in let es : Stretch = stretch lost (r.now.later ++ added) in let longer : t.later ++ added ≡ r.now.later ++ added = ap (λ (z : Stretch). z.later ++ added) mine.3 in
        let is' : m ≡ present key es = is ∙ ap (λ xs. present key (stretch lost xs)) longer in
        let seen : stretch_of key m ≡ es = ap (stretch_of key) is' ∙ stretch_back key es in
        let done = holder_steps s r id i t lost added b [] ws here wide first mine_only (few mine.4.known) (subst (λ (x : Journal). Stands x.start x.entries) is' legal) (no_fewer s r here) (may_now s r here) (member i.number es) refl
        record { known = mine.4.known; here = mine.4.here; front = prefix_refl es.later; own = refl; less = le_refl lost }
        (λ p small. subst (λ xs. Tells (now xs) p (get_or ws (p + FIRST) 0)) longer (tells p small)) (λ p few. tt) (count ∙ ap changes longer) in
        subst (λ (xs : Stretch). Gated key (record { words = ws; homes = s.homes; views = set s.views id (Holding key (member i.number xs) xs []) })) (sym seen) (inr (inr done))

    -- what the rule says of the count, by the holder's own view
    count_now : (s : St) (r : Running key s) → get_elem? s.views id ≡ some held → get_or s.words CHANGES 0 ≡ changes t.later
    count_now s r here = let mine = r.each_seat id held here in r.counted ∙ ap (λ (z : Stretch). changes z.later) (sym mine.3)

    -- entries that are no changes leave it
    count_stays : changes added ≡ 0 → changes t.later ≡ changes (t.later ++ added)
    count_stays none = let both = changes-append t.later added in omega arith

    -- by the store of the one word that they change
    stores : (at word : ℕ) → at < key.cells → OneWord (begun key) (base key ++ t.later) (base key ++ (t.later ++ added)) b key.cells at word → changes added ≡ 0
        → Allows (Gated key) slots id (held, laid) (at + FIRST) (λ _. word) (λ _. published (step slots (at + FIRST) word 0 maybe.none) (held, laid) word)
    stores at word within one none s g deep here small = let r = running key s g id held here (omega arith) in let ws : List ℕ = set s.words (at + FIRST) word in let wide = r.wide in (
      published_view held laid,
      keeps,
      tt,
      publish s r here ws (length-set s.words (at + FIRST) word ∙ wide) (get_or-set_other s.words (at + FIRST) 0 word 0 (λ e. absurd (omega arith)))
          (λ p small. dite (ℕ_discrete p at)
          (λ (e : p ≡ at). subst (λ (q : ℕ). Tells (now (t.later ++ added)) q (get_or ws (q + FIRST) 0)) (sym e) (subst (λ (q : ℕ). Tells (now (t.later ++ added)) at q) (sym (get_or-set_same s.words (at + FIRST) word 0 (omega arith))) one.now))
          (λ ne. subst (λ (q : ℕ). Tells (now (t.later ++ added)) p q) (sym (get_or-set_other s.words (at + FIRST) (p + FIRST) word 0 (λ e. ne (omega arith)))) (one.others p (get_or s.words (p + FIRST) 0) ne small (noted_now s r id i t b here p small) (tells_now s r id i t b here p small))))
          (get_or-set_other s.words (at + FIRST) CHANGES word 0 (λ e. absurd (omega arith)) ∙ (count_now s r here ∙ count_stays none)),
      refl,
    )

    -- by the step that counts the one change among them, where no word has to tell of them
    counts : Quiet (begun key) (base key ++ t.later) (base key ++ (t.later ++ added)) b key.cells → changes added ≡ 1 → changes (t.later ++ added) < 2 ^ 64
        → Allows (Gated key) slots id (held, laid) CHANGES (λ x. (x + 1) % 2 ^ 64) (published (step slots CHANGES 1 0 maybe.none) (held, laid))
    counts quiet one fits s g deep here small = let r = running key s g id held here (omega arith) in let was : ℕ = get_or s.words CHANGES 0 in let up_to : ℕ = (was + 1) % 2 ^ 64 in let ws : List ℕ = set s.words CHANGES up_to in
        let wide = r.wide in let now_is = count_now s r here in let both = changes-append t.later added in let up_is : up_to ≡ changes (t.later ++ added) = omega arith in (
          published_view held laid,
          keeps,
          tt,
          publish s r here ws (length-set s.words CHANGES up_to ∙ wide) (get_or-set_other s.words CHANGES 0 up_to 0 (λ e. absurd (omega arith)))
              (λ p few. subst (λ (q : ℕ). Tells (now (t.later ++ added)) p q) (sym (get_or-set_other s.words CHANGES (p + FIRST) up_to 0 (λ e. absurd (omega arith))))
              (quiet p (get_or s.words (p + FIRST) 0) few (noted_now s r id i t b here p few) (tells_now s r id i t b here p few)))
              (get_or-set_same s.words CHANGES up_to 0 (omega arith) ∙ up_is),
          refl,
        )

    -- by the swap that frees the gate, where no word has to tell of them
    homes : Quiet (begun key) (base key ++ t.later) (base key ++ (t.later ++ added)) b key.cells → changes added ≡ 0 → Allows (Gated key) slots id (held, laid) 0 (λ _. 0) (λ _. updated (step slots 0 0 0 maybe.none) (held, laid) 0)
    homes quiet none s g deep here small = let r = running key s g id held here (omega arith) in let mine = r.each_seat id held here in let es : Stretch = stretch lost (r.now.later ++ added) in let longer : t.later ++ added ≡ r.now.later ++ added = ap (λ (z : Stretch). z.later ++ added) mine.3 in
        let is' : m ≡ present key es = is ∙ ap (λ xs. present key (stretch lost xs)) longer in let j : Member = member i.number es in let w : View = Holding key j es [] in
        let mid : St = record { words = s.words; homes = s.homes; views = set s.views id w } in
        let there : Running key mid = holder_steps s r id i t lost added b [] s.words here r.wide refl mine_only (few mine.4.known) (subst (λ (x : Journal). Stands x.start x.entries) is' legal) (no_fewer s r here) (may_now s r here) j refl
        record { known = mine.4.known; here = mine.4.here; front = prefix_refl es.later; own = refl; less = le_refl lost }
        (λ p fits. subst (λ xs. Tells (now xs) p (get_or s.words (p + FIRST) 0)) longer (quiet p (get_or s.words (p + FIRST) 0) fits (noted_now s r id i t b here p fits) (tells_now s r id i t b here p fits))) (λ p fits. tt)
        (count_now s r here ∙ (count_stays none ∙ ap changes longer)) in
        let did = updates key slots id j es m is' mid (inr (inr there)) deep (at_here s.views id held w here) small in (
          did.0,
          did.1,
          did.2,
          subst (λ (vs : List View). Gated key (record { words = set s.words 0 0; homes = homes_after s.homes laid did.1; views = vs })) (set_twice s.views id w did.0) did.3,
          did.4,
        )

  -- the holder's view, as it is
  module _ (slots id : ℕ) (v : View) (b : List Note) (is : v ≡ Holding key (member_of v) (taken_of v) b) where
    abbrev i : Member
    i = member_of v

    abbrev t : Stretch
    t = taken_of v

    -- the monitor in hand has forgotten as much as the one that was taken out
    module _ (m : Journal) (legal : Stands m.start m.entries) (added : List Entry) (adds : m ≡ present key (with_more t added)) (mine : AllOf i.number added) where
      pub stores_at : (at word : ℕ) → at < key.cells → OneWord (begun key) (base key ++ t.later) (base key ++ (t.later ++ added)) b key.cells at word → changes added ≡ 0
          → Allows (Gated key) slots id (v, (0, Some m) ∷ []) (at + FIRST) (λ _. word) (λ _. published (step slots (at + FIRST) word 0 maybe.none) (v, (0, Some m) ∷ []) word)
      stores_at at word within one none = subst (λ (w : View). Allows (Gated key) slots id (w, (0, Some m) ∷ []) (at + FIRST) (λ _. word) (λ _. published (step slots (at + FIRST) word 0 maybe.none) (w, (0, Some m) ∷ []) word)) (sym is)
          (stores slots id i t t.forgotten added b m legal adds (le_refl t.forgotten) (λ _. refl) (λ k other. own-none i.number k added mine other) (λ known. below-all n i.number added known mine) at word within one none)

      pub homes_at : Quiet (begun key) (base key ++ t.later) (base key ++ (t.later ++ added)) b key.cells → changes added ≡ 0 → Allows (Gated key) slots id (v, (0, Some m) ∷ []) 0 (λ _. 0) (λ _. updated (step slots 0 0 0 maybe.none) (v, (0, Some m) ∷ []) 0)
      homes_at quiet none = subst (λ (w : View). Allows (Gated key) slots id (w, (0, Some m) ∷ []) 0 (λ _. 0) (λ _. updated (step slots 0 0 0 maybe.none) (w, (0, Some m) ∷ []) 0)) (sym is)
          (homes slots id i t t.forgotten added b m legal adds (le_refl t.forgotten) (λ _. refl) (λ k other. own-none i.number k added mine other) (λ known. below-all n i.number added known mine) quiet none)

      pub counts_at : Quiet (begun key) (base key ++ t.later) (base key ++ (t.later ++ added)) b key.cells → changes added ≡ 1 → length m.entries < 2 ^ 64
          → Allows (Gated key) slots id (v, (0, Some m) ∷ []) CHANGES (λ x. (x + 1) % 2 ^ 64) (published (step slots CHANGES 1 0 maybe.none) (v, (0, Some m) ∷ []))
      counts_at quiet one small = let long = ap (λ (x : Journal). length x.entries) adds in let whole = length-append (base key) (t.later ++ added) in let few = changes_few (t.later ++ added) in
          subst (λ (w : View). Allows (Gated key) slots id (w, (0, Some m) ∷ []) CHANGES (λ x. (x + 1) % 2 ^ 64) (published (step slots CHANGES 1 0 maybe.none) (w, (0, Some m) ∷ []))) (sym is)
          (counts slots id i t t.forgotten added b m legal adds (le_refl t.forgotten) (λ _. refl) (λ k other. own-none i.number k added mine other) (λ known. below-all n i.number added known mine) quiet one (omega arith))

    -- the monitor in hand has forgotten more, where the office lets it
    pub frees_at : (m : Journal) → Stands m.start m.entries → (g : ℕ) → m ≡ present key (stretch g t.later) → t.forgotten ≤ g → (key.lasts ≡ true → g ≡ t.forgotten)
        → Allows (Gated key) slots id (v, (0, Some m) ∷ []) 0 (λ _. 0) (λ _. updated (step slots 0 0 0 maybe.none) (v, (0, Some m) ∷ []) 0)
    frees_at m legal g frees up lasts = let whole : m ≡ present key (stretch g (t.later ++ [])) = frees ∙ ap (λ es. present key (stretch g es)) (sym (append-nil t.later)) in
        let quiet : Quiet (begun key) (base key ++ t.later) (base key ++ (t.later ++ [])) b key.cells = λ p w few agrees tells. subst (λ es. Tells (now es) p w) (sym (append-nil t.later)) tells in
        subst (λ (w : View). Allows (Gated key) slots id (w, (0, Some m) ∷ []) 0 (λ _. 0) (λ _. updated (step slots 0 0 0 maybe.none) (w, (0, Some m) ∷ []) 0)) (sym is)
        (homes slots id i t g [] b m legal whole up lasts (λ k other. refl) (λ known. tt) quiet refl)

    -- what the view is once the entries of m are published
    module _ (m : Journal) (added : List Entry) (adds : m ≡ present key (with_more t added)) where
      pub published_as : published_view v ((0, Some m) ∷ []) ≡ Holding key (member i.number (with_more t added)) (with_more t added) []
      published_as = ap (λ (w : View). published_view w ((0, Some m) ∷ [])) is ∙ ap (λ (es : Stretch). Holding key (member i.number es) es []) (ap (stretch_of key) adds ∙ stretch_back key (with_more t added))

      -- and the monitor in hand again is the present one
      pub published_holds : (me : Seat) → me ≡ (published_view v ((0, Some m) ∷ []), (0, None) ∷ []) → Holds key m me × (number_of me.0 ≡ number_of v)
      published_holds me left = let is' : me ≡ holding key (member i.number (with_more t added)) (with_more t added) = left ∙ ap (λ (w : View). (w, (0, None) ∷ [])) published_as in (
        (is' ∙ (λ k. holding key (sym (ap (λ (z : Seat). member_of z.0) is') k) (sym (ap (λ (z : Seat). taken_of z.0) is') k)), adds ∙ ap (present key) (sym (ap (λ (z : Seat). taken_of z.0) is'))),
        ap (λ (z : Seat). number_of z.0) is',
      )

  -- the holder's seat, as it is
  module _ (slots id at : ℕ) (me : Seat) (m : Member) (t : Stretch) (b : List Note) (is : me ≡ noting key m t b) where
    pub reads_me : at < key.cells → Allows (Gated key) slots id me (at + FIRST) (λ x. x) (read (step slots (at + FIRST) 0 0 maybe.none) me)
    reads_me within = subst (λ (z : Seat). Allows (Gated key) slots id z (at + FIRST) (λ x. x) (read (step slots (at + FIRST) 0 0 maybe.none) z)) (sym is) (reads slots id m t b ((0, None) ∷ []) at within)

    pub blanks_me : at < key.cells → Allows (Gated key) slots id me (at + FIRST) (λ _. 0) (λ _. blanked (step slots (at + FIRST) 0 0 maybe.none) me 0)
    blanks_me within = subst (λ (z : Seat). Allows (Gated key) slots id z (at + FIRST) (λ _. 0) (λ _. blanked (step slots (at + FIRST) 0 0 maybe.none) z 0)) (sym is) (blanks slots id m t b ((0, None) ∷ []) at within)

    place_is : (at + FIRST) - FIRST ≡ at
    place_is = omega arith

    -- its notes have one more
    pub noted_me : (word : ℕ) (me' : Seat) → me' ≡ (noted_view me.0 ((at + FIRST) - FIRST) word, me.1) → me' ≡ noting key m t (note at word ∷ b)
    noted_me word me' told = told ∙ ap (λ (z : Seat). (noted_view z.0 ((at + FIRST) - FIRST) word, z.1)) is ∙ ap (λ (p : ℕ). noting key m t (note p word ∷ b)) place_is

    pub read_tells : (found : ℕ) (me' : Seat) → read (step slots (at + FIRST) 0 0 maybe.none) me found me' → Tells (fold (begun key) (base key ++ t.later)) at found × Agrees b at found
    read_tells found me' told = subst (λ (p : ℕ). Tells (now t.later) p found × Agrees b p found) place_is (told.1 key m t b (ap (λ (z : Seat). z.0) is))

-- what a session that read a word with no lock then knows
module _ (key : Charter) (m : Member) (i found : ℕ) (me : Seat) (did : Glimpsed key m i found me) where
  pub glimpsed_seat : me ≡ seated key (member_of me.0)
  glimpsed_seat = did.1 ∙ ap (λ (x : Member). seated key x) (sym (ap (λ (z : Seat). member_of z.0) did.1))

  pub glimpsed_number : number_of me.0 ≡ m.number
  glimpsed_number = ap (λ (z : Seat). number_of z.0) did.1

  pub glimpsed_sees : (v : View) → v ≡ Sessions key (m ∷ []) → Sees key v me.0
  glimpsed_sees v was = let now : me.0 ≡ Sessions key (member m.number did.0 ∷ []) = ap (λ (z : Seat). z.0) did.1 in record {
    begins = subst (λ (z : List Entry × List Entry). IsPrefix z.0 z.1) (λ k. (sym (ap history was) k, sym (ap history now) k)) (prefix_after (base key) m.later did.0.later did.2.front);
    same = ap own now ∙ (sym did.2.own ∙ sym (ap own was));
    stands = subst (λ (es : List Entry). Stands (begun key) es) (sym (ap history now)) did.3;
    less = subst (λ (z : ℕ × ℕ). z.0 ≤ z.1) (λ k. (sym (ap forgotten_seen was) k, sym (ap forgotten_seen now) k)) did.2.less;
  }

  pub glimpsed_tells : Tells (fold (begun key) (history me.0)) i found
  glimpsed_tells = subst (λ (es : List Entry). Tells (fold (begun key) es) i found) (sym (ap (λ (z : Seat). history z.0) did.1)) did.4

-- a session that saw more has the counts that it had
sees_counts : (key : Charter) (v w : View) (c : Counts) → Sees key v w → IsCounted c v → IsCounted c w
sees_counts key v w c sees was = let more = ap (λ (xs : List Entry). length xs) sees.begins.1 in let long = length-append (history v) sees.begins.0 in let had = was.1 in
    (was.0 ∙ ap (λ (xs : List Entry). length xs) (sym sees.same), (let le : c.seen ≤ length (history w) = omega arith in le))

-- what a read with no lock tells the session
module _ (key : Charter) (slots i found : ℕ) (me me' : Seat) (is : me ≡ seated key (member_of me.0)) (told : glanced (step slots (i + FIRST) 0 0 maybe.none) me found me') where
  view_is : me.0 ≡ Sessions key (member_of me.0 ∷ [])
  view_is = ap (λ (z : Seat). z.0) is

  pub glanced_blank : found ≡ 0 → me' ≡ me
  glanced_blank none = (told key (member_of me.0) view_is).0 none

  glimpse : found ≢ 0 → Glimpsed key (member_of me.0) ((i + FIRST) - FIRST) found me'
  glimpse word = (told key (member_of me.0) view_is).1 word

  pub glanced_session : (me' ≡ seated key (member_of me'.0)) × (number_of me'.0 ≡ number_of me.0)
  glanced_session = dite (ℕ_discrete found 0)
      (λ none. (subst (λ (z : Seat). z ≡ seated key (member_of z.0)) (sym (glanced_blank none)) is, ap (λ (z : Seat). number_of z.0) (glanced_blank none)))
      (λ word. (glimpsed_seat key (member_of me.0) _ found me' (glimpse word), glimpsed_number key (member_of me.0) _ found me' (glimpse word)))

  pub glanced_sees : found ≢ 0 → Sees key me.0 me'.0
  glanced_sees word = glimpsed_sees key (member_of me.0) _ found me' (glimpse word) me.0 view_is

  pub glanced_tells : found ≢ 0 → Tells (fold (begun key) (history me'.0)) i found
  glanced_tells word = let same : (i + FIRST) - FIRST ≡ i = omega arith in subst (λ (p : ℕ). Tells (fold (begun key) (history me'.0)) p found) same (glimpsed_tells key (member_of me.0) _ found me' (glimpse word))

  pub glanced_counts : (c : Counts) → IsCounted c me.0 → IsCounted c me'.0
  glanced_counts c was = dite (ℕ_discrete found 0) (λ none. subst (λ (z : Seat). IsCounted c z.0) (sym (glanced_blank none)) was) (λ word. sees_counts key me.0 me'.0 c (glanced_sees word) was)

-- what a read of the count of changes tells the session
module _ (key : Charter) (slots found : ℕ) (me me' : Seat) (is : me ≡ seated key (member_of me.0)) (told : tallied (step slots CHANGES 0 0 maybe.none) me found me') where
  seated_as : me.0 ≡ Sessions key (member_of me.0 ∷ [])
  seated_as = ap (λ (z : Seat). z.0) is

  tally : Tallied key (member_of me.0) found me'
  tally = told key (member_of me.0) seated_as

  -- it has seen as much as one that read a blank word
  caught : Glimpsed key (member_of me.0) 0 0 me'
  caught = (tally.0, tally.1, tally.2, tally.3, λ some. absurd (some refl))

  pub tallied_session : (me' ≡ seated key (member_of me'.0)) × (number_of me'.0 ≡ number_of me.0)
  tallied_session = (glimpsed_seat key (member_of me.0) 0 0 me' caught, glimpsed_number key (member_of me.0) 0 0 me' caught)

  pub tallied_sees : Sees key me.0 me'.0
  tallied_sees = glimpsed_sees key (member_of me.0) 0 0 me' caught me.0 seated_as

  pub tallied_changes : found ≡ changes_seen me'.0
  tallied_changes = tally.4 ∙ sym (ap (λ (z : Seat). changes_seen z.0) tally.1)

  pub tallied_counts : (c : Counts) → IsCounted c me.0 → IsCounted c me'.0
  tallied_counts c was = sees_counts key me.0 me'.0 c tallied_sees was
