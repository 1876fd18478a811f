-- Spans that are ended where they are lost, at one place after the other.
use Rattle.std.proofs.Common.{◌≡◌, ◌≢◌, ℕ, zero, suc, ◌<◌, Bool, true, false, cond, List, [], ◌∷◌, ◌++◌, length, get_or, set, map, Some, refl, sym, ap, ◌∙◌, subst, arith, eqb, inl, inr}
use Rattle.std.specs.Prelude.{◌||◌, ◌&&◌, ◌⊎◌, nat_lt, not}
use Rattle.std.specs.List.{list_any}
use Rattle.std.proofs.lemmas.List.{get_or-set_same, get_or-set_other, length-set}
use Rattle.std.proofs.lemmas.Bool.{cases_eq, eqb-true, lt-ltb}
use Rattle.std.proofs.lemmas.List.Folds.{list_any-append}
use Rattle.mls_state.specs.State.{State}
use Rattle.mls_spans.specs.Spans.{is_held}
use Rattle.mls_spans.specs.Sweeping.{is_open, is_lost, closed, AreAmong, Sweeps}
use Rattle.mls_spans.specs.declared.span.Ending.{Ending}
use Rattle.mls_spans.specs.declared.span.Span.{Span}
use Rattle.mls_spans.proofs.Places.{or_second}

-- nothing is lost of what is ended
ended_stays : (w : State) (x y : Ending) (span : Span) → closed w x (record span { ended = Some y }) ≡ record span { ended = Some y }
ended_stays w x y span = refl

lost_closes : (b : Bool) (x : Ending) (span : Span) → b ≡ true → cond b (record span { ended = Some x }) span ≡ record span { ended = Some x }
lost_closes true x span is = refl
lost_closes false x span is = absurd (let no : false ≡ true = is in cc)

closes : (w : State) (x : Ending) (span : Span) → is_lost w span ≡ true → closed w x span ≡ record span { ended = Some x }
closes w x span is = lost_closes (is_lost w span) x span is

unlost_stays : (b : Bool) (x : Ending) (span : Span) → b ≡ false → cond b (record span { ended = Some x }) span ≡ span
unlost_stays true x span is = absurd (let no : true ≡ false = is in cc)
unlost_stays false x span is = refl

-- a span put in a place, that comes to what the one there comes to
same_closed : (w : State) (x : Ending) (spans : List Span) (at : ℕ) (y d : Span) → closed w x y ≡ closed w x (get_or spans at d)
    → map (closed w x) (set spans at y) ≡ map (closed w x) spans
same_closed w x [] at y d is = refl
same_closed w x (span ∷ spans) zero y d is = λ i. is i ∷ map (closed w x) spans
same_closed w x (span ∷ spans) (suc at) y d is = λ i. closed w x span ∷ same_closed w x spans at y d is i

either_left : (a b c : Bool) → a ≡ false → (b || (a || c)) ≡ true → (b || c) ≡ true
either_left true b c none is = absurd (let no : true ≡ false = none in cc)
either_left false b c none is = is

moved_left : (a b c : Bool) → (b || (a || c)) ≡ true → ((b || (a || false)) || c) ≡ true
moved_left a true c is = refl
moved_left true false c is = refl
moved_left false false c is = is

other : (i at : ℕ) → i ≢ at → eqb i at ≡ false
other i at differs = from (eqb i at) refl where
  from : (b : Bool) → eqb i at ≡ b → eqb i at ≡ false
  from true is = absurd (differs (eqb-true i at is))
  from false is = is

-- the span at a place is ended
pub swept_end : (w : State) (x : Ending) (first spans new : List Span) (at : ℕ) (rest kept : List ℕ) (span : Span) → at < length spans
    → is_lost w span ≡ true → span ≡ get_or spans at span → new ≡ set spans at (record span { ended = Some x })
    → Sweeps w x first spans (at ∷ rest) kept → Sweeps w x first new rest kept
swept_end w x first spans new at rest kept span within is there put so_far =
    record {
      same =
          ap (map (closed w x)) put
          ∙ same_closed w x spans at y span (sym (ap (closed w x) (sym there) ∙ closes w x span is))
          ∙ so_far.same;
      lost = λ i d inside gone. from_lost i d inside gone (cases_eq i at);
      among = λ i d inside opened. from_among i d inside opened (cases_eq i at);
    } where
      y : Span
      y = record span { ended = Some x }

      here : (i : ℕ) (d : Span) → i ≡ at → get_or new i d ≡ y
      here i d same = ap (λ k. get_or new k d) same ∙ ap (λ l. get_or l at d) put ∙ get_or-set_same spans at y d within

      aside : (i : ℕ) (d : Span) → i ≢ at → get_or new i d ≡ get_or spans i d
      aside i d differs = ap (λ l. get_or l i d) put ∙ get_or-set_other spans at i y d differs

      inside_before : (i : ℕ) → i < length new → i < length spans
      inside_before i inside = let long : length new ≡ length spans = ap length put ∙ length-set spans at y in omega (arith, long, inside)

      from_lost : (i : ℕ) (d : Span) → i < length new → is_lost w (get_or new i d) ≡ true → ((i ≡ at) ⊎ (i ≢ at)) → list_any (eqb i) rest ≡ true
      from_lost i d inside gone (inl same) = absurd (let no : false ≡ true = sym (ap (is_lost w) (here i d same)) ∙ gone in cc)
      from_lost i d inside gone (inr differs) =
          either_left (eqb i at) false (list_any (eqb i) rest) (other i at differs)
          (so_far.lost i d (inside_before i inside) (sym (ap (is_lost w) (aside i d differs)) ∙ gone))

      from_among : (i : ℕ) (d : Span) → i < length new → is_open (get_or new i d) ≡ true → ((i ≡ at) ⊎ (i ≢ at))
          → (list_any (eqb i) kept || list_any (eqb i) rest) ≡ true
      from_among i d inside opened (inl same) = absurd (let no : false ≡ true = sym (ap is_open (here i d same)) ∙ opened in cc)
      from_among i d inside opened (inr differs) =
          either_left (eqb i at) (list_any (eqb i) kept) (list_any (eqb i) rest) (other i at differs)
          (so_far.among i d (inside_before i inside) (sym (ap is_open (aside i d differs)) ∙ opened))

-- the span at a place isn't lost
pub swept_keep : (w : State) (x : Ending) (first spans : List Span) (at : ℕ) (rest kept more : List ℕ)
    → ((d : Span) → (nat_lt at (length spans) && is_lost w (get_or spans at d)) ≡ false) → more ≡ kept ++ at ∷ []
    → Sweeps w x first spans (at ∷ rest) kept → Sweeps w x first spans rest more
swept_keep w x first spans at rest kept more stays added so_far = record {
  same = so_far.same;
  lost = λ i d inside gone. from_lost i d inside gone (cases_eq i at);
  among = λ i d inside opened.
      ap (λ l. list_any (eqb i) l || list_any (eqb i) rest) added
      ∙ ap (λ b. b || list_any (eqb i) rest) (list_any-append (eqb i) kept (at ∷ []))
      ∙ moved_left (eqb i at) (list_any (eqb i) kept) (list_any (eqb i) rest) (so_far.among i d inside opened);
} where
  from_lost : (i : ℕ) (d : Span) → i < length spans → is_lost w (get_or spans i d) ≡ true → ((i ≡ at) ⊎ (i ≢ at)) → list_any (eqb i) rest ≡ true
  from_lost i d inside gone (inl same) =
      let below : nat_lt i (length spans) ≡ true = lt-ltb i (length spans) inside in
      absurd (let no : true ≡ false = sym (λ k. below k && gone k) ∙ ap (λ k. nat_lt k (length spans) && is_lost w (get_or spans k d)) same ∙ stays d in cc)
  from_lost i d inside gone (inr differs) =
      either_left (eqb i at) false (list_any (eqb i) rest) (other i at differs) (so_far.lost i d inside gone)

-- where none is lost all stay
none_lost : (w : State) (x : Ending) (spans : List Span) → ((i : ℕ) (d : Span) → i < length spans → is_lost w (get_or spans i d) ≡ true → ⊥)
    → map (closed w x) spans ≡ spans
none_lost w x [] none = refl
none_lost w x (span ∷ spans) none =
    let first : is_lost w span ≡ false = unlost (is_lost w span) (λ is. none 0 span (omega arith) is) in
    let rest : map (closed w x) spans ≡ spans = none_lost w x spans (λ i d inside is. none (suc i) d (omega (arith, inside)) is) in
    λ i. unlost_stays (is_lost w span) x span first i ∷ rest i where
      unlost : (b : Bool) → (b ≡ true → ⊥) → b ≡ false
      unlost true never = absurd (never refl)
      unlost false never = refl

pub swept_all : (w : State) (x : Ending) (first spans : List Span) (kept : List ℕ) → Sweeps w x first spans [] kept → spans ≡ map (closed w x) first
swept_all w x first spans kept so_far =
    sym (none_lost w x spans (λ i d inside is. let no : false ≡ true = so_far.lost i d inside is in absurd (let n : false ≡ true = no in cc))) ∙ so_far.same

or_none : (b : Bool) → (b || false) ≡ true → b ≡ true
or_none true is = refl
or_none false is = is

pub swept_among : (w : State) (x : Ending) (first spans : List Span) (kept : List ℕ) → Sweeps w x first spans [] kept → AreAmong spans kept
swept_among w x first spans kept so_far i d inside opened = or_none (list_any (eqb i) kept) (so_far.among i d inside opened)

pub sweeps_begin : (w : State) (x : Ending) (spans : List Span) (places kept : List ℕ) → AreAmong spans places → Sweeps w x spans spans places kept
sweeps_begin w x spans places kept among = record {
  same = refl;
  lost = λ i d inside is. among i d inside (open_of (is_open (get_or spans i d)) (is_held w (get_or spans i d).access) is);
  among = λ i d inside opened. or_second (list_any (eqb i) kept) (list_any (eqb i) places) (among i d inside opened);
} where
  open_of : (o h : Bool) → (o && not h) ≡ true → o ≡ true
  open_of true h is = refl
  open_of false h is = is

pub swept_done : (w : State) (x : Ending) (first spans : List Span) (left kept : List ℕ) → left ≡ [] → Sweeps w x first spans left kept
    → spans ≡ map (closed w x) first
swept_done w x first spans left kept none so_far = swept_all w x first spans kept (subst (λ l. Sweeps w x first spans l kept) none so_far)

pub swept_places : (w : State) (x : Ending) (first spans : List Span) (left kept : List ℕ) → left ≡ [] → Sweeps w x first spans left kept
    → AreAmong spans kept
swept_places w x first spans left kept none so_far = swept_among w x first spans kept (subst (λ l. Sweeps w x first spans l kept) none so_far)
