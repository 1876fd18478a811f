-- Which hands there are, and between which places.
use Rattle.std.proofs.Common.{◌≡◌, ◌↔◌, ℕ, zero, suc, ◌+◌, ◌-◌, ◌<◌, ◌≤◌, Bool, true, false, ◌⊎◌, inl, inr, nat_lt, List, ◌++◌, ◌∷◌, [], Option, Some, None, is_some, length, refl, sym, ap, subst, ◌∙◌, arith}
use Rattle.std.specs.Prelude.{slice_get, if◌then◌else◌}
use Rattle.std.proofs.lemmas.Bool.{and_parts}
use Rattle.std.proofs.lemmas.Bool.Decides.{nat_tests}
use Rattle.std.specs.FinMap as map
use Rattle.mls_facts.specs.Numbered.{holds_of}
use Rattle.mls_labels.specs.Label.{Label}
use Rattle.mls_tables.specs.declared.limits.TheConstants.{MAX_SUBJECTS, MAX_OBJECTS}
use Rattle.mls_tables.specs.declared.mode.Mode.{Mode}
use Rattle.mls_tables.specs.declared.mode.Mode.TheVariants.{Execute, Read, Append, Write}
use Rattle.mls_state.specs.State.{State, is_subject, is_active, is_above}
use Rattle.mls_state.specs.Properties.{HasTree, HasWholeTables}
use Rattle.mls_futures.specs.Closure.{acts_in, CouldGet, CouldGive}
use Rattle.mls_futures.proofs.Laws.{got_qualifies}
use Rattle.mls_flows.specs.declared.place.Place.{Place}
use Rattle.mls_flows.specs.declared.place.Place.TheVariants.{Subject, Object}
use Rattle.mls_paths.specs.declared.numbering.TheConstants.{PLACES}
use Rattle.mls_paths.specs.declared.reached.Hand.{Hand}
use Rattle.mls_paths.specs.declared.reached.Hand.TheVariants.{By, Made}
use Rattle.mls_paths.specs.declared.ground.Ground.{Ground}
use Rattle.mls_paths.specs.Hands.{acts_of, CouldTake, CouldMake, IsGround, IsHand}
use Rattle.mls_paths.specs.Numbering.{place_of}

-- no other mode observes, and no other one alters
pub no_sight : (v : State) (acts : ℕ → Bool) (room : Bool) (o s : ℕ) → (CouldGet v acts s o Read → ⊥) → (CouldGet v acts s o Write → ⊥) → (h : Hand)
    → IsHand v acts room (Object o) h (Subject s) → ⊥
no_sight v acts room o s reads writes (By Execute) by = let no : false ≡ true = by.0 in cc
no_sight v acts room o s reads writes (By Read) by = reads by.1
no_sight v acts room o s reads writes (By Append) by = let no : false ≡ true = by.0 in cc
no_sight v acts room o s reads writes (By Write) by = writes by.1
no_sight v acts room o s reads writes (Made maker parent) by = by

pub no_change : (v : State) (acts : ℕ → Bool) (room : Bool) (s o : ℕ) → (CouldGet v acts s o Append → ⊥) → (CouldGet v acts s o Write → ⊥) → (h : Hand)
    → IsHand v acts room (Subject s) h (Object o) → ⊥
no_change v acts room s o appends writes (By Execute) by = let no : false ≡ true = by.0 in cc
no_change v acts room s o appends writes (By Read) by = let no : false ≡ true = by.0 in cc
no_change v acts room s o appends writes (By Append) by = appends by.1
no_change v acts room s o appends writes (By Write) by = writes by.1
no_change v acts room s o appends writes (Made maker parent) by = by

pub no_object : (v : State) (acts : ℕ → Bool) (room : Bool) (o p : ℕ) (h : Hand) → IsHand v acts room (Object o) h (Object p) → ⊥
no_object v acts room o p (By x) by = by
no_object v acts room o p (Made maker parent) by = by

pub no_maker : (v : State) (acts : ℕ → Bool) (room : Bool) (s t : ℕ) → ((maker parent : ℕ) → CouldMake v acts room s t maker parent → ⊥) → (h : Hand)
    → IsHand v acts room (Subject s) h (Subject t) → ⊥
no_maker v acts room s t none (By x) by = by
no_maker v acts room s t none (Made maker parent) by = none maker parent by

-- what is dominated is there, and what dominates
pub below_there : (a b : Option Label) → is_above a b ≡ true → is_some b ≡ true
below_there (Some a) (Some b) above = refl
below_there (Some a) None above = cc
below_there None b above = cc

pub above_there : (a b : Option Label) → is_above a b ≡ true → is_some a ≡ true
above_there (Some a) (Some b) above = refl
above_there (Some a) None above = cc
above_there None b above = cc

-- what could be got is there
pub got_subject : (v : State) (acts : ℕ → Bool) (s o : ℕ) (x : Mode) → CouldGet v acts s o x → is_subject v s ≡ true
got_subject v acts s o x could = (and_parts (is_subject v s) (is_active v o) ((got_qualifies v acts s o x could).known)).0

pub got_object : (v : State) (acts : ℕ → Bool) (s o : ℕ) (x : Mode) → CouldGet v acts s o x → is_active v o ≡ true
got_object v acts s o x could = (and_parts (is_subject v s) (is_active v o) ((got_qualifies v acts s o x could).known)).1

pub taken_active : (v : State) (acts : ℕ → Bool) (t maker parent : ℕ) → CouldTake v acts t maker parent → is_active v parent ≡ true
taken_active v acts t maker parent take = got_object v acts maker parent Write take.makes

module _ (v : State) (acts : ℕ → Bool) (whole : HasWholeTables v) where
  -- the place to which content comes is there
  pub hand_subject : (room : Bool) (q : Place) (hand : Hand) (t : ℕ) → IsHand v acts room q hand (Subject t) → is_subject v t ≡ true
  hand_subject room (Object o) (By x) t by = got_subject v acts t o x by.1
  hand_subject room (Object o) (Made maker parent) t by = absurd by
  hand_subject room (Subject s) (By x) t by = absurd by
  hand_subject room (Subject s) (Made maker parent) t by =
      sym (whole.subject_integrity t) ∙ below_there (map.get v.subject_integrity s) (map.get v.subject_integrity t) by.lower

  pub hand_object : (room : Bool) (q : Place) (hand : Hand) (o : ℕ) → IsHand v acts room q hand (Object o) → is_active v o ≡ true
  hand_object room (Object p) (By x) o by = absurd by
  hand_object room (Object p) (Made maker parent) o by = absurd by
  hand_object room (Subject s) (By x) o by = got_object v acts s o x by.1
  hand_object room (Subject s) (Made maker parent) o by = absurd by

-- what a list of flags says of a number
flag_at : (e : Option Bool) (b : Bool) → e ≡ Some b → holds_of (λ c. c) e ≡ b
flag_at None b is = cc
flag_at (Some c) b is = let same : Some c ≡ Some b = is in cc

-- a list has an item at each number below its length
pub past : {X : Type 0} (xs : List X) (n : ℕ) → n < length xs → slice_get xs n ≡ None → ⊥
past [] n below none = absurd (omega (arith, below))
past (x ∷ xs) zero below none = cc
past (x ∷ xs) (suc n) below none = past xs n (omega (arith, below)) none

-- where an object is active, its flag says whether an actor could give permissions of it
pub gives_right : (v : State) (ground : Ground) → HasTree v → IsGround v ground → (o : ℕ) → is_active v o ≡ true
    → (acts_in ground.gives.now o ≡ true ↔ CouldGive v (acts_of ground) o)
gives_right v ground h is o active = from (slice_get ground.gives.now o) refl where
  from : (e : Option Bool) → slice_get ground.gives.now o ≡ e → (acts_in ground.gives.now o ≡ true ↔ CouldGive v (acts_of ground) o)
  from None none =
      let below = h.objects.below o active in
      let many = is.many in
      absurd (past ground.gives.now o (omega (arith, below, many)) none)
  from (Some b) at =
      let right = is.gives o b at active in
      (λ there. right.0 (sym (flag_at (slice_get ground.gives.now o) b at) ∙ there), λ gives. flag_at (slice_get ground.gives.now o) b at ∙ right.1 gives)

-- numbers of places
pub subject_number : (s : ℕ) → s < MAX_SUBJECTS → place_of s ≡ Subject s
subject_number s low =
    let is : nat_lt s MAX_SUBJECTS ≡ true = grind (arith, nat_tests, low) in ap (λ b. if b then Subject s else Object (s - MAX_SUBJECTS)) is

pub object_number : (o : ℕ) → place_of (MAX_SUBJECTS + o) ≡ Object o
object_number o =
    let is : nat_lt (MAX_SUBJECTS + o) MAX_SUBJECTS ≡ false = grind (arith, nat_tests) in
    let same : MAX_SUBJECTS + o - MAX_SUBJECTS ≡ o = omega arith in
    ap (λ b. if b then Subject (MAX_SUBJECTS + o) else Object (MAX_SUBJECTS + o - MAX_SUBJECTS)) is ∙ ap Object same

-- each place to which content comes has a number
pub hand_number : (v : State) (acts : ℕ → Bool) (room : Bool) (count : ℕ) → HasTree v → HasWholeTables v → ((s : ℕ) → is_subject v s ≡ nat_lt s count)
    → count ≤ MAX_SUBJECTS → (q p : Place) (hand : Hand) → IsHand v acts room q hand p → (n : ℕ) × (n < PLACES) × (place_of n ≡ p)
hand_number v acts room count h whole known few q (Subject s) hand by =
    let below : nat_lt s count ≡ true = sym (known s) ∙ hand_subject v acts whole room q hand s by in
    let low : s < count = grind (arith, nat_tests, below) in
    let least : s < MAX_SUBJECTS = omega (arith, low, few) in
    (s, omega (arith, least), subject_number s least)
hand_number v acts room count h whole known few q (Object o) hand by =
    let low : o < MAX_OBJECTS = h.objects.below o (hand_object v acts whole room q hand o by) in
    (MAX_SUBJECTS + o, omega (arith, low), object_number o)
