-- Splits and joins of seats keep the gate's rule, and what the last seat knows at the end.
use Rattle.std.proofs.Common.{le_refl, ◌≡◌, ◌≢◌, ◌⊎◌, ℕ, zero, suc, ◌+◌, ◌-◌, ◌<◌, ◌≤◌, eqb, List, [], ◌∷◌, ◌++◌, length, get_or, set, refl, sym, ap, ◌∙◌, subst, inl, inr, ⊎_elim, arith, eq-eqb, ne_eqb, length-set, Option, Some}
use mathlib.Core.List.{IsPrefix}
use mathlib.Core.Logic.{dite}
use mathlib.Core.Option.{some, some-injective, some-ne-none}
use native.Mathlib.Decide.{ℕ_discrete}
use lib.ListN.{get_elem?}
use lib.Seq.{drop-append_seam}
use prog.Atomic.{either}
use Rattle.atomic_table.specs.Table.{Splits, Joins, Final, Seen}
use Rattle.atomic_table.proofs.Lists.{at_set, set_else, at_longer}
use Rattle.mls_requests.specs.declared.entry.Entry.{Entry}
use Rattle.mls_sessions.specs.Journals.{Charter}
use Rattle.mls_turns.specs.Journals.{Stands, Journal}
use Rattle.mls_monitor.specs.Entries.{of_session, AllBelow}
use Rattle.mls_sessions.specs.Rule.{member, IsNew, base, opened, present, MayForget, IsMember, Fits, IsUnused, Knows, Running, Gated, begun}
use Rattle.mls_sessions.specs.Steps.{Seat, left_of, right_of, both_of}
use Rattle.mls_sessions.specs.declared.gate_table.Stretch.{Stretch}
use Rattle.mls_sessions.specs.declared.gate_table.Member.{Member}
use Rattle.mls_sessions.specs.declared.gate_table.View.{View}
use Rattle.mls_sessions.specs.declared.gate_table.View.TheVariants.{Spent, Starting, Filling, Giving, Sessions, Holding}
use Rattle.mls_sessions.specs.Sessions.{Office, Session, session_at, member_of, number_of, newcomers, IsOf, Ascending, history, HasAll, AllKnowLess, Leaves, members_of, members_in}
use Rattle.mls_sessions.proofs.OwnEntries.{prefix_after}
use Rattle.mls_sessions.proofs.StepsKeep.{St, tag, running, others}

at_end : {A : Type 0} (l : List A) (a b : A) (j : ℕ) → get_elem? (l ++ a ∷ []) j ≡ some b → (get_elem? l j ≡ some b) ⊎ ((j ≡ length l) × (a ≡ b))
at_end [] a b zero e = inr (refl, some-injective a b e)
at_end [] a b (suc j) e = absurd (some-ne-none b (sym e))
at_end (x ∷ l) a b zero e = inl e
at_end (x ∷ l) a b (suc j) e = ⊎_elim (λ t. inl t) (λ (t : (j ≡ length l) × (a ≡ b)). inr (ap suc t.0, t.1)) (at_end l a b j e)

there : {A : Type 0} (l : List A) (j : ℕ) (a : A) → get_elem? l j ≡ some a → j < length l
there [] j a e = absurd (some-ne-none a (sym e))
there (x ∷ l) zero a e = omega arith
there (x ∷ l) (suc j) a e = let t = there l j a e in omega arith

module _ (key : Charter) where
  abbrev pub n : ℕ
  n = key.count

  module _ (now : Stretch) (owner owner' : ℕ → ℕ) (i j : ℕ) (moves : (k : ℕ) → k < n → owner k ≡ i → owner' k ≡ j) where
    member_goes : (x : Member) → IsMember key now owner i x → IsMember key now owner' j x
    member_goes x ok = record { known = ok.known; here = moves x.number ok.known ok.here; front = ok.front; own = ok.own; less = ok.less }

    pub fits_goes : (xs : List Member) → Fits key now owner i xs → Fits key now owner' j xs
    fits_goes [] f = tt
    fits_goes (x ∷ xs) f = (member_goes x f.0, f.1, fits_goes xs f.2)

    unused_goes : (g : ℕ) → IsUnused key now owner i g → IsUnused key now owner' j g
    unused_goes g u k low high = let t = u k low high in (moves k high t.0, t.1)

  knows_goes : (now : Stretch) (owner owner' : ℕ → ℕ) (j : ℕ) → ((k : ℕ) → k < n → owner k ≡ j → owner' k ≡ j) → (h w : ℕ) (v : View) → Knows key now owner j h w v → Knows key now owner' j h w v
  knows_goes now owner owner' j moves h w Spent k = tt
  knows_goes now owner owner' j moves h w (Starting c) k = absurd k
  knows_goes now owner owner' j moves h w (Filling c) k = absurd k
  knows_goes now owner owner' j moves h w (Giving c g) k = (k.0, k.1, unused_goes now owner owner' j j moves g k.2)
  knows_goes now owner owner' j moves h w (Sessions c xs) k = (k.0, fits_goes now owner owner' j j moves xs k.1)
  knows_goes now owner owner' j moves h w (Holding c x t b) k = (k.0, k.1, k.2, k.3, member_goes now owner owner' j j moves x k.4)

  -- a seat that doesn't hold the gate is cut in two
  pub cuts : (s : St) (r : Running key s) (id : ℕ) (v left right : View) → get_elem? s.views id ≡ some v → tag v ≢ 5 → (owner' : ℕ → ℕ)
      → ((k : ℕ) → k < n → r.owner k ≢ id → owner' k ≡ r.owner k)
      → Knows key r.now owner' id r.holder (get_or s.words 0 0) left → Knows key r.now owner' (length s.views) r.holder (get_or s.words 0 0) right
      → Running key (record { words = s.words; homes = s.homes; views = set s.views id left ++ right ∷ [] })
  cuts s r id v left right at idle owner' still mine theirs = let word : ℕ = get_or s.words 0 0 in record {
    now = r.now;
    owner = owner';
    holder = r.holder;
    wide = r.wide;
    deep = r.deep;
    legal = r.legal;
    theirs = r.theirs;
    gone = r.gone;
    notes = r.notes;
    tells = r.tells;
    noted = r.noted;
    counted = r.counted;
    at_home = r.at_home;
    away = λ held. let h = r.away held in
        let ne : r.holder ≢ id = λ e. idle (ap tag (some-injective _ _ (sym at ∙ (ap (λ (j : ℕ). get_elem? s.views j) (sym e) ∙ h.1)))) in
        (h.0, at_longer (set s.views id left) (right ∷ []) r.holder (Holding key h.0 r.now r.notes) (set_else s.views id r.holder left ne ∙ h.1), h.2);
    each_seat = λ j u e. ⊎_elim
        (others key (λ j v. Knows key r.now r.owner j r.holder word v) (λ j v. Knows key r.now owner' j r.holder word v) s.views id left r.each_seat mine
        (λ j v ne k. knows_goes r.now r.owner owner' j (λ m small here. still m small (λ e. ne (sym here ∙ e)) ∙ here) r.holder word v k) j u)
        (λ (t : (j ≡ length (set s.views id left)) × (right ≡ u)). subst (λ (z : ℕ × View). Knows key r.now owner' z.0 r.holder word z.1) (λ k. ((sym (t.0 ∙ length-set s.views id left)) k, t.1 k)) theirs)
        (at_end (set s.views id left) right u j e);
  }

  -- the number k goes to the seat j
  abbrev pub goes_to : ℕ → ℕ → (ℕ → ℕ) → ℕ → ℕ
  goes_to k j owner m = either (eqb m k) j (owner m)

  pub goes_hit : (k j : ℕ) (owner : ℕ → ℕ) (m : ℕ) → m ≡ k → goes_to k j owner m ≡ j
  goes_hit k j owner m e = ap (λ b. either b j (owner m)) (eq-eqb m k e)

  pub goes_miss : (k j : ℕ) (owner : ℕ → ℕ) (m : ℕ) → m ≢ k → goes_to k j owner m ≡ owner m
  goes_miss k j owner m e = ap (λ b. either b j (owner m)) (ne_eqb m k e)

  -- the next number is given
  pub gives_one : (id g : ℕ) → 0 < g → Splits (Gated key) id (Giving key g) (Giving key (g - 1)) (Sessions key (member (n - g) (opened key) ∷ []))
  gives_one id g some_left s gated at = let v : View = Giving key g in let r = running key s gated id v at (omega arith) in let mine = r.each_seat id v at in let low = mine.1 in
      let k₀ : ℕ = n - g in let j₀ : ℕ = length s.views in let owner' = goes_to k₀ j₀ r.owner in let has = mine.2 k₀ (omega arith) (omega arith) in
      inr (inr (cuts s r id v (Giving key (g - 1)) (Sessions key (member k₀ (opened key) ∷ [])) at (λ e. absurd (omega arith)) owner'
      (λ m small ne. goes_miss k₀ j₀ r.owner m (λ e. ne (ap r.owner e ∙ has.0)))
      (refl, omega arith, λ m lo hi. let t = mine.2 m (omega arith) hi in (goes_miss k₀ j₀ r.owner m (λ e. absurd (omega arith)) ∙ t.0, t.1))
      (refl, (record { known = (let x : k₀ < n = omega arith in x); here = goes_hit k₀ j₀ r.owner k₀ refl; front = (r.now.later, refl); own = sym has.1; less = r.gone.more }, tt, tt))))

  at_two : (vs : List View) (id other : ℕ) (u w : View) (P Q : ℕ → View → Type 0) → ((j : ℕ) (v : View) → get_elem? vs j ≡ some v → P j v) → Q id u → Q other w → ((j : ℕ) (v : View) → j ≢ id → j ≢ other → P j v → Q j v)
      → (j : ℕ) (v : View) → get_elem? (set (set vs id u) other w) j ≡ some v → Q j v
  at_two vs id other u w P Q all mine theirs rest j v e = ⊎_elim
      (λ (t : (j ≡ other) × (w ≡ v)). subst (λ (z : ℕ × View). Q z.0 z.1) (λ k. (sym t.0 k, t.1 k)) theirs)
      (λ (t : (j ≢ other) × (get_elem? (set vs id u) j ≡ some v)). ⊎_elim
      (λ (a : (j ≡ id) × (u ≡ v)). subst (λ (z : ℕ × View). Q z.0 z.1) (λ k. (sym a.0 k, a.1 k)) mine)
      (λ (a : (j ≢ id) × (get_elem? vs j ≡ some v)). rest j v a.0 t.0 (all j v a.1)) (at_set vs id j u v t.1))
      (at_set (set vs id u) other j w v e)

  new_append : (k : ℕ) (xs ys : List Member) → IsNew k xs → IsNew k ys → IsNew k (xs ++ ys)
  new_append k [] ys a b = b
  new_append k (x ∷ xs) ys a b = (a.0, new_append k xs ys a.1 b)

  -- sessions of two seats have different numbers
  new_there : (now : Stretch) (owner : ℕ → ℕ) (i j : ℕ) → j ≢ i → (x : Member) → IsMember key now owner i x → (ys : List Member) → Fits key now owner j ys → IsNew x.number ys
  new_there now owner i j ne x ok [] f = tt
  new_there now owner i j ne x ok (y ∷ ys) f = ((λ e. ne (sym f.0.here ∙ (ap owner e ∙ ok.here))), new_there now owner i j ne x ok ys f.2)

  -- and so they can be in one
  fits_append : (now : Stretch) (owner owner' : ℕ → ℕ) (i j : ℕ) → j ≢ i → ((k : ℕ) → k < n → owner k ≡ i → owner' k ≡ i) → ((k : ℕ) → k < n → owner k ≡ j → owner' k ≡ i)
      → (xs ys : List Member) → Fits key now owner i xs → Fits key now owner j ys → Fits key now owner' i (xs ++ ys)
  fits_append now owner owner' i j ne a b [] ys f g = fits_goes now owner owner' j i b ys g
  fits_append now owner owner' i j ne a b (x ∷ xs) ys f g =
      (member_goes now owner owner' i i a x f.0, new_append x.number xs ys f.1 (new_there now owner i j ne x f.0 ys g), fits_append now owner owner' i j ne a b xs ys f.2 g)

  pub gathers : (id other : ℕ) (xs ys : List Member) → Joins (Gated key) id (Sessions key xs) other (Sessions key ys) (Sessions key (xs ++ ys)) Spent
  gathers id other xs ys s gated at ne there₂ = let v : View = Sessions key xs in let u : View = Sessions key (xs ++ ys) in let w : View = Sessions key ys in
      let r = running key s gated id v at (omega arith) in let word : ℕ = get_or s.words 0 0 in
      let at₂ : get_elem? s.views other ≡ some w = sym (set_else s.views id other u ne) ∙ there₂ in
      let mine = (r.each_seat id v at).1 in let theirs = (r.each_seat other w at₂).1 in
      let owner' : ℕ → ℕ = λ k. either (eqb (r.owner k) other) id (r.owner k) in
      let hit : (k : ℕ) → r.owner k ≡ other → owner' k ≡ id = λ k e. ap (λ b. either b id (r.owner k)) (eq-eqb (r.owner k) other e) in
      let miss : (k : ℕ) → r.owner k ≢ other → owner' k ≡ r.owner k = λ k e. ap (λ b. either b id (r.owner k)) (ne_eqb (r.owner k) other e) in
      inr (inr record {
        now = r.now;
        owner = owner';
        holder = r.holder;
        wide = r.wide;
        deep = r.deep;
        legal = r.legal;
        theirs = r.theirs;
        gone = r.gone;
        notes = r.notes;
        tells = r.tells;
        noted = r.noted;
        counted = r.counted;
        at_home = r.at_home;
        away = λ held. let h = r.away held in let seen : View → ℕ = tag in
            let a : r.holder ≢ id = λ e. (let z = ap tag (some-injective _ _ (sym at ∙ (ap (λ (j : ℕ). get_elem? s.views j) (sym e) ∙ h.1))) in absurd (omega arith)) in
            let b : r.holder ≢ other = λ e. (let z = ap tag (some-injective _ _ (sym at₂ ∙ (ap (λ (j : ℕ). get_elem? s.views j) (sym e) ∙ h.1))) in absurd (omega arith)) in
            (h.0, set_else (set s.views id u) other r.holder Spent b ∙ (set_else s.views id r.holder u a ∙ h.1), h.2);
        each_seat = at_two s.views id other u Spent (λ j v. Knows key r.now r.owner j r.holder word v) (λ j v. Knows key r.now owner' j r.holder word v) r.each_seat
            (refl, fits_append r.now r.owner owner' id other ne (λ k small here. miss k (λ e. ne (sym e ∙ here)) ∙ here) (λ k small here. hit k here) xs ys mine theirs)
            tt
            (λ j v a b k. knows_goes r.now r.owner owner' j (λ m small here. miss m (λ e. b (sym here ∙ e)) ∙ here) r.holder word v k);
      })

  -- the numbers go up by one from k on
  abbrev pub Ascends : ℕ → List Member → Type 0
  Ascends k [] = Unit {0}
  Ascends k (x ∷ xs) = (x.number ≡ k) × Ascends (k + 1) xs

  -- whose seat each of these numbers is
  owner_of : (now : Stretch) (owner : ℕ → ℕ) (i k : ℕ) (xs : List Member) → Ascends k xs → Fits key now owner i xs → (m : ℕ) → k ≤ m → m < k + length xs → owner m ≡ i
  owner_of now owner i k [] a f m lo hi = absurd (omega arith)
  owner_of now owner i k (x ∷ xs) a f m lo hi = let is = a.0 in dite (ℕ_discrete m k) (λ e. ap owner (e ∙ sym is) ∙ f.0.here) (λ ne. owner_of now owner i (k + 1) xs a.1 f.2 m (omega arith) (omega arith))

  -- what is known of each session of the list
  abbrev pub Known : Stretch → List Member → Type 0
  Known now [] = Unit {0}
  Known now (x ∷ xs) = IsPrefix x.later now.later × (of_session x.number x.later ≡ of_session x.number now.later) × (x.forgotten ≤ now.forgotten) × Known now xs

  known_of : (now : Stretch) (owner : ℕ → ℕ) (i : ℕ) (xs : List Member) → Fits key now owner i xs → Known now xs
  known_of now owner i [] f = tt
  known_of now owner i (x ∷ xs) f = (f.0.front, f.0.own, f.0.less, known_of now owner i xs f.2)

  -- Who has all sessions finds the monitor at home
  pub closes : (id : ℕ) (xs : List Member) → Ascends 0 xs → length xs ≡ n → (ws : List ℕ) (slots : List (Option Journal)) → Final (Seen (Gated key) id (Sessions key xs)) ws slots
      → (now : Stretch) × (get_elem? slots 0 ≡ some (Some (present key now))) × Known now xs × AllBelow n now.later × Stands (begun key) (base key ++ now.later) × MayForget key now.forgotten
  closes id xs up all ws slots f = let s = f.0 in let at = f.1.1 in let v : View = Sessions key xs in let r = running key s f.1.0 id v at (omega arith) in let mine = (r.each_seat id v at).1 in
      dite (ℕ_discrete (get_or s.words 0 0) 0)
      (λ free. (r.now, f.4 0 (Some (present key r.now)) (r.at_home free), known_of r.now r.owner id xs mine, r.theirs, r.legal, r.gone))
      (λ held. let h = r.away held in let theirs = (r.each_seat r.holder (Holding key h.0 r.now r.notes) h.1).4 in let small = theirs.known in
      let seat : id ≡ r.holder = sym (owner_of r.now r.owner id 0 xs up mine h.0.number (omega arith) (omega arith)) ∙ theirs.here in
      let two = ap tag (some-injective _ _ (sym at ∙ (ap (λ (j : ℕ). get_elem? s.views j) seat ∙ h.1))) in absurd (omega arith))

  pub splits_at : (id g : ℕ) (v : View) → v ≡ Giving key g → 0 < g → Splits (Gated key) id v (left_of v) (right_of v)
  splits_at id g v is some_left = subst (λ (w : View). Splits (Gated key) id w (left_of w) (right_of w)) (sym is) (gives_one id g some_left)

  pub joins_at : (id other : ℕ) (xs ys : List Member) (v w : View) → v ≡ Sessions key xs → w ≡ Sessions key ys → Joins (Gated key) id v other w (both_of v w) Spent
  joins_at id other xs ys v w a b = subst (λ (z : View × View). Joins (Gated key) id z.0 other z.1 (both_of z.0 z.1) Spent) (λ k. (sym a k, sym b k)) (gathers id other xs ys)

  -- a seat of sessions, by the list that it has
  pub listed : (me : Seat) (xs : List Member) → me ≡ (Sessions key xs, []) → me ≡ (Sessions key (members_in me.0), [])
  listed me xs is = is ∙ ap (λ (ys : List Member). (Sessions key ys, [])) (sym (ap (λ (m : Seat). members_in m.0) is))

pub members-append : (xs : List Session) (s : Session) → members_of (xs ++ s ∷ []) ≡ members_of xs ++ member_of s.view ∷ []
members-append [] s = refl
members-append (x ∷ xs) s = ap (λ is. member_of x.view ∷ is) (members-append xs s)

pub ascending_last : (o : Office) (k : ℕ) (xs : List Session) (s : Session) → Ascending o k (xs ++ s ∷ []) → Ascending o k xs × IsOf o s
ascending_last o k [] s a = (tt, a.0)
ascending_last o k (x ∷ xs) s a = let t = ascending_last o (number_of x.view + 1) xs s a.2 in ((a.0, a.1, t.0), t.1)

-- there are no more sessions than numbers
pub no_more : (o : Office) (k : ℕ) (ss : List Session) → Ascending o k ss → k ≤ o.charter.count → k + length ss ≤ o.charter.count
no_more o k [] a le = omega arith
no_more o k (s ∷ ss) a le = let low = a.1 in let small = a.0.2 in let t = no_more o (number_of s.view + 1) ss a.2 (omega arith) in omega arith

pub at_most : (o : Office) (ss : List Session) → Ascending o 0 ss → length ss ≤ o.charter.count
at_most o ss a = let t = no_more o 0 ss a (omega arith) in omega arith

-- and where there are as many, they have all numbers
pub ascends : (o : Office) (k : ℕ) (ss : List Session) → Ascending o k ss → k + length ss ≡ o.charter.count → Ascends o.charter k (members_of ss)
ascends o k [] a all = tt
ascends o k (s ∷ ss) a all = let low = a.1 in let small = a.0.2 in let t = no_more o (number_of s.view + 1) ss a.2 (omega arith) in let is : number_of s.view ≡ k = omega arith in
    (is, ascends o (k + 1) ss (subst (λ (m : ℕ). Ascending o (m + 1) ss) is a.2) (omega arith))

pub length-members : (ss : List Session) → length (members_of ss) ≡ length ss
length-members [] = refl
length-members (s ∷ ss) = ap suc (length-members ss)

has_all : (o : Office) (k : ℕ) (now : Stretch) (ss : List Session) → Ascending o k ss → Known o.charter now (members_of ss) → HasAll o (present o.charter now) ss
has_all o k now [] a f = tt
has_all o k now (s ∷ ss) a f = (
  subst (λ (es : List Entry). IsPrefix es (base o.charter ++ now.later)) (sym (ap history a.0.1)) (prefix_after (base o.charter) (member_of s.view).later now.later f.0),
  ap (of_session (number_of s.view)) (drop-append_seam (base o.charter) now.later) ∙ sym f.1,
  has_all o (number_of s.view + 1) now ss a.2 f.3,
)

know_less : (o : Office) (now : Stretch) (ss : List Session) → Known o.charter now (members_of ss) → AllKnowLess (present o.charter now) ss
know_less o now [] f = tt
know_less o now (s ∷ ss) f = (f.2, know_less o now ss f.3)

-- what stands in the slot of a closed table, once all sessions were joined
pub leaves : (o : Office) (ss : List Session) → Ascending o 0 ss → length ss ≡ o.charter.count → (id : ℕ) (v : View) → v ≡ Sessions o.charter (members_of ss) → (ws : List ℕ) (slots : List (Option Journal))
    → Final (Seen (Gated o.charter) id v) ws slots → (m : Journal) × (get_elem? slots 0 ≡ some (Some m)) × Leaves o ss m
leaves o ss up all id v is ws slots f =
    let t = closes o.charter id (members_of ss) (ascends o 0 ss up (omega arith)) (length-members ss ∙ all) ws slots (subst (λ (w : View). Final (Seen (Gated o.charter) id w) ws slots) is f) in (
      present o.charter t.0,
      t.1,
      record {
        start = refl;
        forgotten = t.5.more;
        known = know_less o t.0 ss t.2;
        lasts = t.5.same;
        begins = (t.0.later, refl);
        all = has_all o 0 t.0 ss up t.2;
        below = subst (AllBelow o.charter.count) (sym (drop-append_seam (base o.charter) t.0.later)) t.3;
        stands = t.4;
      },
    )

abbrev AllUnder : ℕ → List Session → Type 0
AllUnder k [] = Unit {0}
AllUnder k (s ∷ ss) = (number_of s.view < k) × AllUnder k ss

under_snoc : (k : ℕ) (ss : List Session) (s : Session) → AllUnder k ss → number_of s.view ≡ k → AllUnder (suc k) (ss ++ s ∷ [])
under_snoc k [] s u is = (omega arith, tt)
under_snoc k (x ∷ ss) s u is = let a = u.0 in (omega arith, under_snoc k ss s u.1 is)

ascending_snoc : (o : Office) (m : ℕ) (ss : List Session) (s : Session) → Ascending o m ss → m ≤ number_of s.view → AllUnder (number_of s.view) ss → IsOf o s → Ascending o m (ss ++ s ∷ [])
ascending_snoc o m [] s a low u is = (is, low, tt)
ascending_snoc o m (x ∷ ss) s a low u is = let small = u.0 in (a.0, a.1, ascending_snoc o (number_of x.view + 1) ss s a.2 (omega arith) u.1 is)

newcomers_both : (o : Office) (k : ℕ) → k ≤ o.charter.count → Ascending o 0 (newcomers o k) × AllUnder k (newcomers o k)
newcomers_both o zero le = (tt, tt)
newcomers_both o (suc k) le = let t = newcomers_both o k (omega arith) in let s : Session = session_at o.table (Sessions o.charter (member k (opened o.charter) ∷ [])) in
    (ascending_snoc o 0 (newcomers o k) s t.0 (omega arith) t.1 (refl, refl, omega arith), under_snoc k (newcomers o k) s t.1 refl)

-- the sessions of an office as it is opened can close it
pub newcomers_ascend : (o : Office) → Ascending o 0 (newcomers o o.charter.count)
newcomers_ascend o = (newcomers_both o o.charter.count (le_refl o.charter.count)).0
