-- What is kept of gets once a state is looked at.
use Rattle.std.proofs.Common.{◌≡◌, ℕ, zero, suc, ◌<◌, Bool, true, false, cond, List, [], ◌∷◌, ◌++◌, length, get_or, set, map, Option, refl, sym, ap, subst, ◌∙◌, append-nil, eqb}
use Rattle.std.specs.Prelude.{not, ◌&&◌, ◌||◌, ◌==◌, filter}
use Rattle.std.specs.FinSet as sets
use Rattle.std.specs.Cmp.{unsigned_tied, nat_eq_equiv}
use Rattle.std.proofs.lemmas.Bool.{and_parts, and_from, eqb-true}
use Rattle.std.proofs.lemmas.List.{map-append}
use Rattle.std.proofs.lemmas.List.Elements.{filter-append}
use Rattle.mls_facts.proofs.Places.{get_or-set}
use Rattle.mls_state.specs.State.{State, is_active}
use Rattle.mls_requests.specs.declared.reply.Reply.{Reply}
use Rattle.mls_requests.specs.declared.request.Request.{Request}
use Rattle.mls_rules.specs.Rules.{reply, after}
use Rattle.mls_tables.specs.Mode.{mode_number, ModeSet}
use Rattle.mls_tables.specs.Triples.{Triple}
use Rattle.mls_tables.specs.declared.mode.Mode.{Mode}
use Rattle.mls_tables.proofs.Laws.{is_triple-true, modes_total}
use Rattle.mls_spans.specs.Turning.{differ, is_one_of, is_turn_of, turns_of, kept, settled, settled_where, is_reached, reach}
use Rattle.mls_spans.specs.Windows.{would_grant, turned}
use Rattle.mls_spans.specs.declared.reach.Reach.{Reach}
use Rattle.mls_spans.specs.declared.turn.Turn.{Turn}
use Rattle.mls_spans.specs.declared.turning.Turns.{Turns}
use Rattle.mls_spans.proofs.Reaching.{unreached}

same_turned : (b : Bool) (place : Option ℕ) → turned b b place ≡ []
same_turned true place = refl
same_turned false place = refl

-- nothing is added where the answer is the same
pub settled_same : (w : State) (t : Triple) (place : Option ℕ) (k : Bool × List (Option ℕ)) → k.0 ≡ would_grant w t → k ≡ settled w place t k
settled_same w t place k is =
    let none : turned k.0 (would_grant w t) place ≡ [] = ap (λ c. turned k.0 c place) (sym is) ∙ same_turned k.0 place in
    let list : k.1 ≡ k.1 ++ turned k.0 (would_grant w t) place = sym (ap (λ l. k.1 ++ l) none ∙ append-nil k.1) in
    λ i. (is i, list i)

-- the turns of an access with one more
pub turns_of_more : (found : List Turn) (turn : Turn) (t : Triple)
    → turns_of (found ++ turn ∷ []) t ≡ turns_of found t ++ cond (is_turn_of t turn) (turn.number ∷ []) []
turns_of_more found turn t =
    ap (map (λ (u : Turn). u.number)) (filter-append (is_turn_of t) found (turn ∷ []))
    ∙ map-append (λ (u : Turn). u.number) (filter (is_turn_of t) found) (filter (is_turn_of t) (turn ∷ []))
    ∙ ap (λ l. turns_of found t ++ l) (one_more (is_turn_of t turn)) where
      one_more : (b : Bool) → map (λ (u : Turn). u.number) (cond b (turn ∷ []) []) ≡ cond b (turn.number ∷ []) []
      one_more true = refl
      one_more false = refl

-- the access of a subject in a mode
one_is : (s o : ℕ) (x : Mode) (t : Triple) → t.1 ≡ o → is_one_of s x t ≡ true → t ≡ (s, o, x)
one_is s o x t at is =
    let parts = and_parts (t.0 == s) (mode_number t.2 == mode_number x) is in
    let object : (t.1 == o) ≡ true = ap (λ k. k == o) at ∙ nat_eq_equiv.refl o in
    is_triple-true t (s, o, x) (and_from (t.0 == s) ((t.1 == o) && (mode_number t.2 == mode_number x)) parts.0
    (and_from (t.1 == o) (mode_number t.2 == mode_number x) object parts.1))

module _ (w : State) (s o : ℕ) (x : Mode) (place : Option ℕ) where
  -- where the answer is the one that is kept, all stays
  pub stay_kept : (old : Turns) → (kept old (s, o, x)).0 ≡ would_grant w (s, o, x)
      → (t : Triple) → t.1 ≡ o → kept old t ≡ settled_where (is_one_of s x t) w place t (kept old t)
  stay_kept old is t at = from (is_one_of s x t) refl where
    from : (b : Bool) → is_one_of s x t ≡ b → kept old t ≡ settled_where b w place t (kept old t)
    from true one =
        settled_same w t place (kept old t) (subst (λ u. (kept old u).0 ≡ would_grant w u) (sym (one_is s o x t at one)) is)
    from false other = refl

  -- the turn that is added
  abbrev added : Turn
  added = record { subject = s; mode = x; number = place }

  module _ (old new : Turns) (granted : ModeSet) (within : s < length old.modes.items)
      (modes : (y : Mode) → sets.contains granted y
      ≡ cond (mode_number y == mode_number x) (would_grant w (s, o, x)) (sets.contains (get_or old.modes.items s sets.empty) y))
      (put : new.modes.items ≡ set old.modes.items s granted) (more : new.turns.items ≡ old.turns.items ++ added ∷ []) where
    modes_now : (t : Triple) → sets.contains (get_or new.modes.items t.0 sets.empty) t.2
        ≡ sets.contains (cond (eqb t.0 s) granted (get_or old.modes.items t.0 sets.empty)) t.2
    modes_now t =
        ap (λ l. sets.contains (get_or l t.0 sets.empty) t.2) put
        ∙ ap (λ m. sets.contains m t.2) (get_or-set old.modes.items s granted t.0 sets.empty within)

    turns_now : (t : Triple) → turns_of new.turns.items t ≡ turns_of old.turns.items t ++ cond (is_one_of s x t) (place ∷ []) []
    turns_now t = ap (λ l. turns_of l t) more ∙ turns_of_more old.turns.items added t

    aside : (t : Triple) → is_one_of s x t ≡ false → sets.contains (cond (eqb t.0 s) granted (get_or old.modes.items t.0 sets.empty)) t.2
        ≡ sets.contains (get_or old.modes.items t.0 sets.empty) t.2
    aside t other = from (eqb t.0 s) refl where
      from : (b : Bool) → eqb t.0 s ≡ b → sets.contains (cond b granted (get_or old.modes.items t.0 sets.empty)) t.2
          ≡ sets.contains (get_or old.modes.items t.0 sets.empty) t.2
      from true own =
          let mode : (mode_number t.2 == mode_number x) ≡ false = ap (λ b. b && (mode_number t.2 == mode_number x)) (sym own) ∙ other in
          modes t.2 ∙ ap (λ b. cond b (would_grant w (s, o, x)) (sets.contains (get_or old.modes.items s sets.empty) t.2)) mode
          ∙ ap (λ k. sets.contains (get_or old.modes.items k sets.empty) t.2) (sym (eqb-true t.0 s own))
      from false else_where = refl

    -- where the answer turns, that is kept
    pub turn_kept : turned (kept old (s, o, x)).0 (would_grant w (s, o, x)) place ≡ place ∷ []
        → (t : Triple) → t.1 ≡ o → kept new t ≡ settled_where (is_one_of s x t) w place t (kept old t)
    turn_kept turns t at = from (is_one_of s x t) refl where
      here : kept new (s, o, x) ≡ settled w place (s, o, x) (kept old (s, o, x))
      here =
          let own : eqb s s ≡ true = nat_eq_equiv.refl s in
          let mode : (mode_number x == mode_number x) ≡ true = nat_eq_equiv.refl (mode_number x) in
          let one : is_one_of s x (s, o, x) ≡ true = and_from (s == s) (mode_number x == mode_number x) own mode in
          let first : sets.contains (get_or new.modes.items s sets.empty) x ≡ would_grant w (s, o, x) =
          modes_now (s, o, x) ∙ ap (λ b. sets.contains (cond b granted (get_or old.modes.items s sets.empty)) x) own
          ∙ modes x ∙ ap (λ b. cond b (would_grant w (s, o, x)) (sets.contains (get_or old.modes.items s sets.empty) x)) mode in
          let second : turns_of new.turns.items (s, o, x)
          ≡ turns_of old.turns.items (s, o, x) ++ turned (kept old (s, o, x)).0 (would_grant w (s, o, x)) place =
          turns_now (s, o, x) ∙ ap (λ b. turns_of old.turns.items (s, o, x) ++ cond b (place ∷ []) []) one
          ∙ ap (λ l. turns_of old.turns.items (s, o, x) ++ l) (sym turns) in
          λ i. (first i, second i)

      from : (b : Bool) → is_one_of s x t ≡ b → kept new t ≡ settled_where b w place t (kept old t)
      from true one = subst (λ u. kept new u ≡ settled w place u (kept old u)) (sym (one_is s o x t at one)) here
      from false other =
          let list : turns_of new.turns.items t ≡ turns_of old.turns.items t =
          turns_now t ∙ ap (λ b. turns_of old.turns.items t ++ cond b (place ∷ []) []) other ∙ append-nil (turns_of old.turns.items t) in
          λ i. ((modes_now t ∙ aside t other) i, list i)

by_mode : (e b now : Bool) → (now ≡ true → (e || b) ≡ cond e now b) × (now ≡ false → (not e && b) ≡ cond e now b)
by_mode true b now = ((λ is. sym is), (λ is. sym is))
by_mode false b now = ((λ is. refl), (λ is. refl))

-- with a mode more, which is granted now; with a mode less, which isn't
pub with_mode : (m : ModeSet) (x : Mode) (now : Bool) → now ≡ true
    → (y : Mode) → sets.contains (sets.insert m x) y ≡ cond (mode_number y == mode_number x) now (sets.contains m y)
with_mode m x now is y =
    sets.contains-insert modes_total m x y ∙ ap (λ e. e || sets.contains m y) (unsigned_tied (mode_number y) (mode_number x))
    ∙ (by_mode (mode_number y == mode_number x) (sets.contains m y) now).0 is

pub without_mode : (m : ModeSet) (x : Mode) (now : Bool) → now ≡ false
    → (y : Mode) → sets.contains (sets.remove m x) y ≡ cond (mode_number y == mode_number x) now (sets.contains m y)
without_mode m x now is y =
    sets.contains-remove modes_total m x y ∙ ap (λ e. not e && sets.contains m y) (unsigned_tied (mode_number y) (mode_number x))
    ∙ (by_mode (mode_number y == mode_number x) (sets.contains m y) now).1 is

-- a get that is granted now and was not; one that was and is not
pub opens : (was now : Bool) (place : Option ℕ) → was ≡ false → now ≡ true → turned was now place ≡ place ∷ []
opens was now place is_not is = (λ i. turned (is_not i) (is i) place)

pub closes : (was now : Bool) (place : Option ℕ) → was ≡ true → now ≡ false → turned was now place ≡ place ∷ []
closes was now place is is_not = (λ i. turned (is i) (is_not i) place)

-- the turn of one that is granted now, and of one that no longer is
module _ (w : State) (s o : ℕ) (x : Mode) (place : Option ℕ) (old new : Turns) (within : s < length old.modes.items) (granted : ModeSet)
    (put : new.modes.items ≡ set old.modes.items s granted)
    (more : new.turns.items ≡ old.turns.items ++ (record { subject = s; mode = x; number = place }) ∷ []) where
  pub opened : granted ≡ sets.insert (get_or old.modes.items s sets.empty) x → (kept old (s, o, x)).0 ≡ false → would_grant w (s, o, x) ≡ true
      → (t : Triple) → t.1 ≡ o → kept new t ≡ settled_where (is_one_of s x t) w place t (kept old t)
  opened is was now =
      turn_kept w s o x place old new granted within
      (λ y. ap (λ m. sets.contains m y) is ∙ with_mode (get_or old.modes.items s sets.empty) x (would_grant w (s, o, x)) now y) put more
      (opens (kept old (s, o, x)).0 (would_grant w (s, o, x)) place was now)

  pub closed : granted ≡ sets.remove (get_or old.modes.items s sets.empty) x → (kept old (s, o, x)).0 ≡ true → would_grant w (s, o, x) ≡ false
      → (t : Triple) → t.1 ≡ o → kept new t ≡ settled_where (is_one_of s x t) w place t (kept old t)
  closed is was now =
      turn_kept w s o x place old new granted within
      (λ y. ap (λ m. sets.contains m y) is ∙ without_mode (get_or old.modes.items s sets.empty) x (would_grant w (s, o, x)) now y) put more
      (closes (kept old (s, o, x)).0 (would_grant w (s, o, x)) place was now)

-- one set of no modes more
pub pushed_none : (modes : List ModeSet) (k : ℕ) → get_or modes k sets.empty ≡ sets.empty → get_or (modes ++ sets.empty ∷ []) k sets.empty ≡ sets.empty
pushed_none [] zero none = refl
pushed_none [] (suc k) none = refl
pushed_none (m ∷ modes) zero none = none
pushed_none (m ∷ modes) (suc k) none = pushed_none modes k none

-- nothing is kept yet
abbrev Known : Type 0
Known = Bool × List (Option ℕ)

pub none_kept : (modes : List ModeSet) (found : List Turn) (t : Triple) → get_or modes t.0 sets.empty ≡ sets.empty → found ≡ []
    → ◌≡◌ {A = Known} (sets.contains (get_or modes t.0 sets.empty) t.2, turns_of found t) (false, [])
none_kept modes found t is none =
    let first : sets.contains (get_or modes t.0 sets.empty) t.2 ≡ false =
    ap (λ m. sets.contains m t.2) is ∙ sets.contains-empty _ t.2 in
    λ i. (first i, turns_of (none i) t)

-- what nobody reached is as if all had been looked at
pub reached_settled : (v w : State) (r : Request) (o : ℕ) (answer : Reply) (whom : Reach) (changed : Bool) (place : Option ℕ) (t : Triple)
    (old new : Turns) → answer ≡ reply v r → w ≡ after v r → whom ≡ reach answer changed o r.subject r.action
    → changed ≡ differ (is_active v o) (is_active w o) → t.1 ≡ o → (kept old t).0 ≡ would_grant v t
    → kept new t ≡ settled_where (is_reached whom t.0) w place t (kept old t) → kept new t ≡ settled w place t (kept old t)
reached_settled v w r o answer whom changed place t old new told next of is at granted each = from (is_reached whom t.0) refl where
  is_after : changed ≡ differ (is_active v o) (is_active (after v r) o)
  is_after = is ∙ ap (λ u. differ (is_active v o) (is_active u o)) next

  whom_is : whom ≡ reach (reply v r) changed o r.subject r.action
  whom_is = of ∙ ap (λ a. reach a changed o r.subject r.action) told

  from : (b : Bool) → is_reached whom t.0 ≡ b → kept new t ≡ settled w place t (kept old t)
  from true reached = each ∙ ap (λ b. settled_where b w place t (kept old t)) reached
  from false none =
      let same : would_grant w t ≡ would_grant v t =
      ap (λ u. would_grant u t) next ∙ unreached v r o changed t at is_after (sym (ap (λ k. is_reached k t.0) whom_is) ∙ none) in
      each ∙ ap (λ b. settled_where b w place t (kept old t)) none ∙ settled_same w t place (kept old t) (granted ∙ sym same)
