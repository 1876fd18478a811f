-- What the monitor in hand has more than the present journal, step by step.
use Rattle.std.proofs.Common.{◌≡◌, ◌≢◌, ℕ, ◌+◌, ◌<◌, ◌≤◌, ◌%◌, true, false, List, [], ◌∷◌, ◌++◌, refl, sym, ap, ◌∙◌, subst, arith, append_assoc, append-nil}
use mathlib.Core.Logic.{dite}
use native.Mathlib.Decide.{ℕ_discrete}
use Rattle.mls_tables.specs.declared.mode.Mode.{Mode}
use Rattle.mls_tables.specs.declared.limits.TheConstants.{MAX_OBJECTS}
use Rattle.mls_state.specs.State.{State, is_active}
use Rattle.mls_requests.specs.declared.entry.Entry.{Entry}
use Rattle.mls_requests.specs.declared.request.Request.{Request}
use Rattle.mls_rules.specs.Rules.{reply}
use Rattle.mls_monitor.specs.Journal.{fold}
use Rattle.mls_sessions.specs.Cells.{place, bit_of, has_bit, Tells, note, Agrees, Finer, Quiet, OneWord, OfActive}
use Rattle.mls_sessions.specs.Journals.{Charter}
use Rattle.mls_turns.specs.Journals.{Journal, journal, Appends}
use Rattle.mls_sessions.specs.Rule.{begun, base, stretch, present}
use Rattle.mls_sessions.specs.declared.gate_table.Stretch.{Stretch}
use Rattle.mls_sessions.specs.Steps.{Seat}
use Rattle.mls_sessions.specs.Sessions.{member_of, taken_of, notes_of, number_of, noting, Holds, HasMore, HasChange, Leads, IsNext}
use Rattle.mls_sessions.specs.Changes.{changes, is_change}
use Rattle.mls_sessions.specs.Touches.{touch_of, makes_access}
use Rattle.mls_sessions.specs.declared.gate_table.Note.{Note}
use Rattle.mls_sessions.specs.declared.touch.Touch.TheVariants.{Nothing, One, Many}
use Rattle.mls_sessions.proofs.OwnEntries.{all-append}
use Rattle.mls_sessions.proofs.Lasting.{one_change, no_change, many_change}
use Rattle.mls_sessions.proofs.Touching.{quiet_nothing, quiet_rest, quiet_past, quiet_blank, quiet_word, one_word, same_word, tells_after}

-- notes that are finer leave words quiet
pub quiet_finer : (start : State) (old new : List Entry) (ns ms : List Note) (cells : ℕ) → Finer ns ms → Quiet start old new ns cells → Quiet start old new ms cells
quiet_finer start old new ns ms cells finer quiet i w few agrees was known = quiet i w few (finer i w known agrees) was known

pub finer_trans : (ns ms ls : List Note) → Finer ns ms → Finer ms ls → Finer ns ls
finer_trans ns ms ls a b i w some agrees = a i w some (b i w some agrees)

-- a word that agrees is noted
pub finer_read : (ns : List Note) (at x : ℕ) → Agrees ns at x → Finer ns (note at x ∷ ns)
finer_read ns at x is i w some agrees = dite (ℕ_discrete i at) (λ (e : i ≡ at). subst (λ (z : ℕ × ℕ). Agrees ns z.0 z.1) (λ k. (sym e k, sym (agrees.0 e) k)) is) (λ ne. agrees.1 ne)

-- a word is blank
pub finer_blank : (ns : List Note) (at : ℕ) → Finer ns (note at 0 ∷ ns)
finer_blank ns at i w some agrees = dite (ℕ_discrete i at) (λ (e : i ≡ at). absurd (some (agrees.0 e))) (λ ne. agrees.1 ne)

-- what was read blank, and what is made blank, is blank
pub blank_read : (ns : List Note) (at x w : ℕ) → x ≡ 0 → Agrees (note at x ∷ ns) at w → w ≡ 0
blank_read ns at x w none agrees = agrees.0 refl ∙ none

-- so the word at that place is
pub blank_there : {P : Type 0} (ns : List Note) (at x w : ℕ) → x ≡ 0 → w ≢ 0 → Agrees (note at x ∷ ns) at w → P
blank_there ns at x w none some agrees = absurd (some (agrees.0 refl ∙ none))

-- the words so far are of objects that are there, and one more
pub active_none : (v : State) (ns : List Note) → OfActive v ns 0
active_none v ns i w few some agrees = absurd (omega arith)

pub active_more : (v : State) (ns ms : List Note) (k : ℕ) → OfActive v ns k → Finer ns ms → ((w : ℕ) → w ≢ 0 → Agrees ms k w → is_active v (k % MAX_OBJECTS) ≡ true) → OfActive v ms (k + 1)
active_more v ns ms k all finer here i w few some agrees = dite (ℕ_discrete i k)
    (λ (e : i ≡ k). subst (λ (p : ℕ). is_active v (p % MAX_OBJECTS) ≡ true) (sym e) (here w some (subst (λ (p : ℕ). Agrees ms p w) e agrees)))
    (λ ne. all i w (omega arith) some (finer i w some agrees))

module _ (key : Charter) where
  -- the monitor that was just taken out, or published
  pub leads_first : (j : Journal) (me : Seat) → Holds key j me → Leads key j me
  leads_first j me held = let t : Stretch = taken_of me.0 in (
    held.0 ∙ ap (λ ns. noting key (member_of me.0) t ns) (sym (ap (λ (z : Seat). notes_of z.0) held.0)),
    [],
    record { grown = held.1 ∙ ap (λ es. present key (stretch t.forgotten es)) (sym (append-nil t.later)); mine = tt },
    record { words = λ i w few agrees was. subst (λ es. Tells (fold (begun key) (base key ++ es)) i w) (sym (append-nil t.later)) was; count = refl },
  )

  -- an entry more
  pub next_is : (j j' : Journal) (me : Seat) (k : ℕ) (r : Request) (e : Entry) → Leads key j me → k ≡ number_of me.0 → Appends j k r e j' → IsNext key me e j'
  next_is j j' me k r e leads is did = let t : Stretch = taken_of me.0 in let added : List Entry = leads.1 in let was = leads.2.grown in record {
    added = added;
    more = record {
      grown = did.appended ∙ ap (λ (b : Journal). journal b.start b.forgotten (b.entries ++ e ∷ [])) was
          ∙ ap (journal (begun key) t.forgotten) (append_assoc (base key) (t.later ++ added) (e ∷ []) ∙ ap (λ es. base key ++ es) (append_assoc t.later added (e ∷ [])));
      mine = all-append (number_of me.0) added (e ∷ []) leads.2.mine (did.made ∙ is, tt);
    };
    quiet = leads.3;
    answered = did.answered ∙ (λ k. reply (fold (was k).start (was k).entries) (sym did.asked k));
  }

  module _ (me : Seat) (e : Entry) (j : Journal) (is : me ≡ noting key (member_of me.0) (taken_of me.0) (notes_of me.0)) (next : IsNext key me e j) where
    abbrev t : Stretch
    t = taken_of me.0

    abbrev added : List Entry
    added = next.added

    abbrev mid : List Entry
    mid = base key ++ (t.later ++ added)

    abbrev last : List Entry
    last = base key ++ (t.later ++ (added ++ e ∷ []))

    joined : base key ++ ((t.later ++ added) ++ e ∷ []) ≡ last
    joined = ap (λ es. base key ++ es) (append_assoc t.later added (e ∷ []))

    -- where the entry is quiet too, by finer notes, so are all
    quiet_on : (ms : List Note) → Finer (notes_of me.0) ms → Quiet (begun key) mid (base key ++ ((t.later ++ added) ++ e ∷ [])) ms key.cells → Quiet (begun key) (base key ++ t.later) last ms key.cells
    quiet_on ms finer quiet i w few agrees was = subst (λ es. Tells (fold (begun key) es) i w) joined
        (quiet i w few agrees (quiet_finer (begun key) (base key ++ t.later) mid (notes_of me.0) ms key.cells finer next.quiet.words i w few agrees was))

    -- and the monitor leads, where it is no change
    leads_on : is_change e ≡ false → (me' : Seat) → me' ≡ noting key (member_of me.0) t (notes_of me'.0) → Finer (notes_of me.0) (notes_of me'.0)
        → Quiet (begun key) mid (base key ++ ((t.later ++ added) ++ e ∷ [])) (notes_of me'.0) key.cells → Leads key j me' × (number_of me'.0 ≡ number_of me.0)
    leads_on plain me' now finer quiet = let ms : List Note = notes_of me'.0 in let then : Seat = noting key (member_of me.0) t ms in
        let done : Leads key j then = (
          refl,
          added ++ e ∷ [],
          record { grown = next.more.grown; mine = next.more.mine },
          record { words = quiet_on ms finer quiet; count = no_change added e next.quiet.count plain },
        ) in
        (subst (Leads key j) (sym now) done, ap (λ (z : Seat). number_of z.0) now)

    -- or it is to be counted, where it is one
    counts_on : is_change e ≡ true → (me' : Seat) → me' ≡ noting key (member_of me.0) t (notes_of me'.0) → Finer (notes_of me.0) (notes_of me'.0)
        → Quiet (begun key) mid (base key ++ ((t.later ++ added) ++ e ∷ [])) (notes_of me'.0) key.cells → HasChange key me' j
    counts_on one me' now finer quiet = let ms : List Note = notes_of me'.0 in let then : Seat = noting key (member_of me.0) t ms in
        let done : HasChange key then j = record {
          added = added ++ e ∷ [];
          more = record { grown = next.more.grown; mine = next.more.mine };
          words = quiet_on ms finer quiet;
          count = one_change added e next.quiet.count one;
        } in
        subst (λ (z : Seat). HasChange key z j) (sym now) done

    -- no access is changed
    pub leads_nothing : touch_of e ≡ Nothing → is_change e ≡ false → Leads key j me × (number_of me.0 ≡ number_of me.0)
    leads_nothing none plain = leads_on plain me is (λ i w some agrees. agrees) (quiet_nothing (begun key) (base key) (t.later ++ added) e next.answered (notes_of me.0) key.cells none)

    pub counts_nothing : touch_of e ≡ Nothing → is_change e ≡ true → HasChange key me j
    counts_nothing none one = counts_on one me is (λ i w some agrees. agrees) (quiet_nothing (begun key) (base key) (t.later ++ added) e next.answered (notes_of me.0) key.cells none)

    -- objects were deleted
    pub counts_many : touch_of e ≡ Many → (me' : Seat) → me' ≡ noting key (member_of me.0) t (notes_of me'.0) → Finer (notes_of me.0) (notes_of me'.0)
        → OfActive (fold j.start j.entries) (notes_of me'.0) key.cells → HasChange key me' j
    counts_many many me' now finer rest = counts_on (many_change e many) me' now finer
        (quiet_rest (begun key) (base key) (t.later ++ added) e next.answered (notes_of me'.0) key.cells many
        (subst (λ (v : State). OfActive v (notes_of me'.0) key.cells) (ap (λ (b : Journal). fold b.start b.entries) next.more.grown ∙ ap (fold (begun key)) (sym joined)) rest))

    module _ (s o : ℕ) (x : Mode) (one : touch_of e ≡ One s o x) where
      -- the triple has no word
      pub counts_past : is_change e ≡ true → (o < MAX_OBJECTS → key.cells ≤ place s o) → HasChange key me j
      counts_past change past = counts_on change me is (λ i w some agrees. agrees) (quiet_past (begun key) (base key) (t.later ++ added) e next.answered s o x one (notes_of me.0) key.cells past)

      -- its word is blank
      pub counts_blank : is_change e ≡ true → (at : ℕ) → at ≡ place s o → (me' : Seat) → me' ≡ noting key (member_of me.0) t (notes_of me'.0) → Finer (notes_of me.0) (notes_of me'.0)
          → ((w : ℕ) → Agrees (notes_of me'.0) at w → w ≡ 0) → HasChange key me' j
      counts_blank change at place_is me' now finer blank = counts_on change me' now finer
          (quiet_blank (begun key) (base key) (t.later ++ added) e next.answered s o x one (notes_of me'.0) key.cells (subst (λ (p : ℕ). (w : ℕ) → Agrees (notes_of me'.0) p w → w ≡ 0) place_is blank))

      pub leads_past : is_change e ≡ false → (o < MAX_OBJECTS → key.cells ≤ place s o) → Leads key j me × (number_of me.0 ≡ number_of me.0)
      leads_past plain past = leads_on plain me is (λ i w some agrees. agrees) (quiet_past (begun key) (base key) (t.later ++ added) e next.answered s o x one (notes_of me.0) key.cells past)

      -- the word that follows one which told
      pub told_new : (at w w' : ℕ) → at ≡ place s o → at < key.cells → o < MAX_OBJECTS → Agrees (notes_of me.0) at w → Tells (fold (begun key) (base key ++ t.later)) at w → (w ≡ 0 → w' ≡ 0)
          → (w ≢ 0 → has_bit w' (bit_of s x) ≡ makes_access e.request.action) → (w ≢ 0 → (i : ℕ) → i < 64 → i ≢ bit_of s x → has_bit w' i ≡ has_bit w i)
          → Tells (fold (begun key) (base key ++ ((t.later ++ added) ++ e ∷ []))) (place s o) w'
      told_new at w w' place_is few within agrees tells none bit rest =
          tells_after (begun key) (base key) (t.later ++ added) e next.answered s o x one w w' within (subst (λ (p : ℕ). Tells (fold (begun key) mid) p w) place_is (next.quiet.words at w few agrees tells)) none bit rest

      -- by the monitor in hand
      pub told_in_hand : (at w' : ℕ) → at ≡ place s o → Tells (fold (begun key) (base key ++ ((t.later ++ added) ++ e ∷ []))) (place s o) w' → Tells (fold j.start j.entries) at w'
      told_in_hand at w' place_is told = subst (λ (z : State × ℕ). Tells z.0 z.1 w') (λ k. (sym (ap (λ (b : Journal). fold b.start b.entries) next.more.grown ∙ ap (fold (begun key)) (sym joined)) k, sym place_is k)) told

      -- the word of the triple was read
      module _ (plain : is_change e ≡ false) (at w w' : ℕ) (place_is : at ≡ place s o) (few : at < key.cells) (within : o < MAX_OBJECTS) (me' : Seat) (now : me' ≡ noting key (member_of me.0) t (note at w ∷ notes_of me.0)) (agrees : Agrees (notes_of me.0) at w)
          (tells : Tells (fold (begun key) (base key ++ t.later)) at w) (none : w ≡ 0 → w' ≡ 0) (bit : w ≢ 0 → has_bit w' (bit_of s x) ≡ makes_access e.request.action) (rest : w ≢ 0 → (i : ℕ) → i < 64 → i ≢ bit_of s x → has_bit w' i ≡ has_bit w i) where
        abbrev read : List Note
        read = note at w ∷ notes_of me.0

        told_word : Tells (fold (begun key) (base key ++ ((t.later ++ added) ++ e ∷ []))) (place s o) w'
        told_word = told_new at w w' place_is few within agrees tells none bit rest

        notes_now : notes_of me'.0 ≡ read
        notes_now = ap (λ (z : Seat). notes_of z.0) now

        -- it stays as it is
        pub leads_same : w' ≡ w → Leads key j me' × (number_of me'.0 ≡ number_of me.0)
        leads_same same = leads_on plain me' (now ∙ ap (noting key (member_of me.0) t) (sym notes_now)) (subst (λ ns. Finer (notes_of me.0) ns) (sym notes_now) (finer_read (notes_of me.0) at w agrees))
            (subst (λ ns. Quiet (begun key) mid (base key ++ ((t.later ++ added) ++ e ∷ [])) ns key.cells) ((λ k. note (sym place_is k) (same k) ∷ notes_of me.0) ∙ sym notes_now)
            (quiet_word (begun key) (base key) (t.later ++ added) e next.answered s o x one (notes_of me.0) key.cells w' told_word))

        abbrev ForStore : Seat → ℕ → Type 0
        ForStore z p = (more : List Entry) × HasMore key z more j × OneWord (begun key) (base key ++ (taken_of z.0).later) (base key ++ ((taken_of z.0).later ++ more)) (notes_of z.0) key.cells p w' × (changes more ≡ 0)

        -- it is stored
        pub for_store : ForStore me' at
        for_store = let one_new = one_word (begun key) (base key) (t.later ++ added) e next.answered s o x one read key.cells w' told_word in
            let quiet = quiet_finer (begun key) (base key ++ t.later) mid (notes_of me.0) read key.cells (finer_read (notes_of me.0) at w agrees) next.quiet.words in
            let all : OneWord (begun key) (base key ++ t.later) (base key ++ ((t.later ++ added) ++ e ∷ [])) read key.cells (place s o) w' =
            record { now = one_new.now; others = λ i u ne small agreed was. one_new.others i u ne small agreed (quiet i u small agreed was) } in
            subst (λ (z : Seat). ForStore z at) (sym now) (
              added ++ e ∷ [],
              record { grown = next.more.grown; mine = next.more.mine },
              subst (λ (z : ℕ × List Entry). OneWord (begun key) (base key ++ t.later) z.1 read key.cells z.0 w') (λ k. (sym place_is k, joined k)) all,
              no_change added e next.quiet.count plain,
            )

  -- where the monitor in hand is the present one, a word that tells of it may be stored
  pub for_refresh : (j : Journal) (me : Seat) (at word : ℕ) → Holds key j me → Tells (fold j.start j.entries) at word → (more : List Entry) × HasMore key me more j
      × OneWord (begun key) (base key ++ (taken_of me.0).later) (base key ++ ((taken_of me.0).later ++ more)) (notes_of me.0) key.cells at word × (changes more ≡ 0)
  for_refresh j me at word held told = let t : Stretch = taken_of me.0 in let ns : List Note = notes_of me.0 in let took = held.1 in
      let tells : Tells (fold (begun key) (base key ++ t.later)) at word = subst (λ (z : Journal). Tells (fold z.start z.entries) at word) took told in (
        [],
        record { grown = took ∙ ap (λ es. present key (stretch t.forgotten es)) (sym (append-nil t.later)); mine = tt },
        subst (λ es. OneWord (begun key) (base key ++ t.later) (base key ++ es) ns key.cells at word) (sym (append-nil t.later)) (same_word (begun key) (base key ++ t.later) ns key.cells at word tells),
        refl,
      )
