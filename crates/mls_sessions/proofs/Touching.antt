-- What an entry changes of the words of accesses.
use Rattle.std.proofs.Common.{◌≡◌, ◌≢◌, ℕ, ◌+◌, ◌*◌, ◌/◌, ◌%◌, ◌<◌, ◌≤◌, Bool, true, false, ◌&&◌, ◌||◌, ◌==◌, not, List, [], ◌∷◌, ◌++◌, refl, sym, ap, ◌∙◌, subst, arith, ne_eqb, true≢false, append_assoc, Option, None, is_some, cond}
use mathlib.Core.Logic.{dite}
use native.Mathlib.Decide.{ℕ_discrete}
use Rattle.std.specs.FinSet as set
use Rattle.std.specs.FinSet.{nat_cmp-IsAntisymmetric}
use Rattle.std.specs.FinMap as map
use Rattle.mls_tables.specs.declared.mode.Mode.{Mode}
use Rattle.mls_tables.specs.declared.mode.Mode.TheVariants.{Execute, Read, Append, Write}
use Rattle.mls_tables.specs.declared.limits.TheConstants.{MAX_OBJECTS}
use Rattle.mls_tables.specs.Mode.{mode_number}
use Rattle.mls_tables.specs.Triples.{Triple, TripleSet, is_triple}
use Rattle.mls_tables.proofs.Laws.{is_triple-itself, contains-insert-triple, contains-remove-triple, contains-retain-triple, mode_of, mode_of-mode_number}
use Rattle.mls_state.specs.State.{State, is_active}
use Rattle.mls_state.specs.Changes.{stays}
use Rattle.mls_requests.specs.declared.action.Action.{Action}
use Rattle.mls_requests.specs.declared.action.Action.TheVariants.{Get, Release, Give, Rescind, Create, Delete, SubjectLevel, ObjectLevel}
use Rattle.mls_requests.specs.declared.reply.Reply.{Reply}
use Rattle.mls_requests.specs.declared.reply.Reply.TheVariants.{Yes, Created, No, Undefined}
use Rattle.mls_requests.specs.declared.entry.Entry.{Entry}
use Rattle.mls_rules.specs.Rules.{reply, change, after, after_reply}
use Rattle.mls_monitor.specs.Journal.{fold}
use Rattle.mls_sessions.specs.Cells.{place, bit_of, has_bit, Tells, note, Agrees, Quiet, OneWord, OfActive}
use Rattle.mls_sessions.specs.Touches.{touch_asked, touch_by, touch_of, may_change, makes_access}
use Rattle.mls_sessions.specs.declared.touch.Touch.{Touch}
use Rattle.mls_sessions.specs.declared.touch.Touch.TheVariants.{Nothing, One, Many}
use Rattle.mls_sessions.specs.declared.gate_table.Note.{Note}

and_true : (t : Bool) → (t && true) ≡ t
and_true true = refl
and_true false = refl

both_false : (t : Bool) → (t && false) ≡ false
both_false true = refl
both_false false = refl

-- triples that differ in a part
pub not_same : (p q s o : ℕ) (y x : Mode) → (p ≡ s → q ≡ o → mode_number y ≡ mode_number x → ⊥) → is_triple (p, q, y) (s, o, x) ≡ false
not_same p q s o y x differ = dite (ℕ_discrete p s)
    (λ (a : p ≡ s). dite (ℕ_discrete q o)
    (λ (b : q ≡ o). ap (λ (t : Bool). (p == s) && ((q == o) && t)) (ne_eqb (mode_number y) (mode_number x) (λ c. differ a b c)) ∙ (ap (λ (t : Bool). (p == s) && t) (both_false (q == o)) ∙ both_false (p == s)))
    (λ nb. ap (λ (t : Bool). (p == s) && (t && (mode_number y == mode_number x))) (ne_eqb q o nb) ∙ both_false (p == s)))
    (λ na. ap (λ (t : Bool). t && ((q == o) && (mode_number y == mode_number x))) (ne_eqb p s na))

inserted_else : (b : TripleSet) (t u : Triple) → is_triple t u ≡ false → set.contains (set.insert b u) t ≡ set.contains b t
inserted_else b t u ne = contains-insert-triple b u t ∙ ap (λ (x : Bool). x || set.contains b t) ne

removed_else : (b : TripleSet) (t u : Triple) → is_triple t u ≡ false → set.contains (set.remove b u) t ≡ set.contains b t
removed_else b t u ne = contains-remove-triple b u t ∙ ap (λ (x : Bool). not x && set.contains b t) ne

change_else : (v : State) (s : ℕ) (a : Action) (t : Triple) → may_change (touch_asked s a) t ≡ false → set.contains (change v s a).accesses t ≡ set.contains v.accesses t
change_else v s (Get y o) t ne = inserted_else v.accesses t (s, o, y) ne
change_else v s (Release y o) t ne = removed_else v.accesses t (s, o, y) ne
change_else v s (Give y u o) t ne = refl
change_else v s (Rescind y u o) t ne = removed_else v.accesses t (u, o, y) ne
change_else v s (Create r l i) t ne = refl
change_else v s (Delete o) t ne = absurd (true≢false ne)
change_else v s (SubjectLevel l) t ne = refl
change_else v s (ObjectLevel o l) t ne = refl

reply_else : (a : Reply) (v w : State) (touch : Touch) (t : Triple) → may_change (touch_by a touch) t ≡ false → (may_change touch t ≡ false → set.contains w.accesses t ≡ set.contains v.accesses t)
    → set.contains (after_reply a v w).accesses t ≡ set.contains v.accesses t
reply_else Yes v w touch t ne same = same ne
reply_else (Created o) v w touch t ne same = same ne
reply_else (No reason) v w touch t ne same = refl
reply_else Undefined v w touch t ne same = refl

fold-snoc : (v : State) (es : List Entry) (e : Entry) → fold v (es ++ e ∷ []) ≡ after (fold v es) e.request
fold-snoc v [] e = refl
fold-snoc v (x ∷ es) e = fold-snoc (after v x.request) es e

-- an entry leaves what it can't change
entry_else : (start : State) (old : List Entry) (e : Entry) (t : Triple) → e.reply ≡ reply (fold start old) e.request → may_change (touch_of e) t ≡ false
    → set.contains (fold start (old ++ e ∷ [])).accesses t ≡ set.contains (fold start old).accesses t
entry_else start old e t said ne = let v = fold start old in let r = e.request in
    ap (λ (z : State). set.contains z.accesses t) (fold-snoc start old e ∙ ap (λ (a : Reply). after_reply a v (change v r.subject r.action)) (sym said))
    ∙ reply_else e.reply v (change v r.subject r.action) (touch_asked r.subject r.action) t ne (change_else v r.subject r.action t)

abbrev pub tag : Touch → ℕ
tag Nothing = 0
tag (One s o x) = 1
tag Many = 2

abbrev triple_of : Touch → Triple
triple_of (One s o x) = (s, o, x)
triple_of touch = (0, 0, Execute)

-- a granted action makes the triple that it names an access, or none
change_at : (v : State) (s : ℕ) (a : Action) (p q : ℕ) (x : Mode) → touch_asked s a ≡ One p q x → set.contains (change v s a).accesses (p, q, x) ≡ makes_access a
change_at v s (Get y o) p q x is = let t : Triple = (s, o, y) in
    ap (λ (z : Touch). set.contains (set.insert v.accesses t) (triple_of z)) (sym is) ∙ (contains-insert-triple v.accesses t t ∙ ap (λ (b : Bool). b || set.contains v.accesses t) (is_triple-itself t))
change_at v s (Release y o) p q x is = let t : Triple = (s, o, y) in
    ap (λ (z : Touch). set.contains (set.remove v.accesses t) (triple_of z)) (sym is) ∙ (contains-remove-triple v.accesses t t ∙ ap (λ (b : Bool). not b && set.contains v.accesses t) (is_triple-itself t))
change_at v s (Give y u o) p q x is = (let z = ap tag is in absurd (omega arith))
change_at v s (Rescind y u o) p q x is = let t : Triple = (u, o, y) in
    ap (λ (z : Touch). set.contains (set.remove v.accesses t) (triple_of z)) (sym is) ∙ (contains-remove-triple v.accesses t t ∙ ap (λ (b : Bool). not b && set.contains v.accesses t) (is_triple-itself t))
change_at v s (Create r l i) p q x is = (let z = ap tag is in absurd (omega arith))
change_at v s (Delete o) p q x is = (let z = ap tag is in absurd (omega arith))
change_at v s (SubjectLevel l) p q x is = (let z = ap tag is in absurd (omega arith))
change_at v s (ObjectLevel o l) p q x is = (let z = ap tag is in absurd (omega arith))

reply_at : (a : Reply) (v w : State) (touch : Touch) (p q : ℕ) (x : Mode) (made : Bool) → touch_by a touch ≡ One p q x → (touch ≡ One p q x → set.contains w.accesses (p, q, x) ≡ made) → set.contains (after_reply a v w).accesses (p, q, x) ≡ made
reply_at Yes v w touch p q x made is so = so is
reply_at (Created o) v w touch p q x made is so = so is
reply_at (No reason) v w touch p q x made is so = (let z = ap tag is in absurd (omega arith))
reply_at Undefined v w touch p q x made is so = (let z = ap tag is in absurd (omega arith))

-- the state after an entry, by its reply
pub after_entry : (start : State) (old : List Entry) (e : Entry) → e.reply ≡ reply (fold start old) e.request → fold start (old ++ e ∷ []) ≡ after_reply e.reply (fold start old) (change (fold start old) e.request.subject e.request.action)
after_entry start old e said = let v = fold start old in let r = e.request in fold-snoc start old e ∙ ap (λ (a : Reply). after_reply a v (change v r.subject r.action)) (sym said)

passed : {X : Type 0} (b : Bool) (e : Option X) → is_some (cond b e None) ≡ true → b ≡ true
passed true e h = refl
passed false e h = h

-- who is active after a deletion stayed
kept_passes : (v : State) (o q : ℕ) → is_active (change v 0 (Delete o)) q ≡ true → stays v o q ≡ true
kept_passes v o q there = passed (stays v o q) (map.get v.object_label q)
    (sym (ap is_some (map.get-retain_keys v.object_label (stays v o) q (λ x e. ap (stays v o) (sym (nat_cmp-IsAntisymmetric q x e))))) ∙ there)

-- who is active after a deletion kept its accesses
change_there : (v : State) (s : ℕ) (a : Action) (q : ℕ) (p : ℕ) (x : Mode) → touch_asked s a ≡ Many → is_active (change v s a) q ≡ true → set.contains (change v s a).accesses (p, q, x) ≡ set.contains v.accesses (p, q, x)
change_there v s (Get y o) q p x is there = (let z = ap tag is in absurd (omega arith))
change_there v s (Release y o) q p x is there = (let z = ap tag is in absurd (omega arith))
change_there v s (Give y u o) q p x is there = (let z = ap tag is in absurd (omega arith))
change_there v s (Rescind y u o) q p x is there = (let z = ap tag is in absurd (omega arith))
change_there v s (Create r l i) q p x is there = (let z = ap tag is in absurd (omega arith))
change_there v s (Delete o) q p x is there = let kept : stays v o q ≡ true = kept_passes v o q there in
    contains-retain-triple v.accesses (λ t. stays v o t.1) (p, q, x) ∙ (ap (λ (b : Bool). set.contains v.accesses (p, q, x) && b) kept ∙ and_true (set.contains v.accesses (p, q, x)))
change_there v s (SubjectLevel l) q p x is there = (let z = ap tag is in absurd (omega arith))
change_there v s (ObjectLevel o l) q p x is there = (let z = ap tag is in absurd (omega arith))

reply_there : (a : Reply) (v w : State) (touch : Touch) (q p : ℕ) (x : Mode) → touch_by a touch ≡ Many → is_active (after_reply a v w) q ≡ true → (touch ≡ Many → is_active w q ≡ true → set.contains w.accesses (p, q, x) ≡ set.contains v.accesses (p, q, x))
    → set.contains (after_reply a v w).accesses (p, q, x) ≡ set.contains v.accesses (p, q, x)
reply_there Yes v w touch q p x is there so = so is there
reply_there (Created o) v w touch q p x is there so = so is there
reply_there (No reason) v w touch q p x is there so = refl
reply_there Undefined v w touch q p x is there so = refl

mode_small : (x : Mode) → mode_number x < 4
mode_small Execute = omega arith
mode_small Read = omega arith
mode_small Append = omega arith
mode_small Write = omega arith

same_mode : (y x : Mode) → mode_number y ≡ mode_number x → y ≡ x
same_mode y x e = sym (mode_of-mode_number y) ∙ (ap mode_of e ∙ mode_of-mode_number x)

-- a place tells the object and the eight subjects
pub same_place : (p q s o : ℕ) → q < MAX_OBJECTS → o < MAX_OBJECTS → place p q ≡ place s o → (q ≡ o) × (p / 8 ≡ s / 8)
same_place p q s o a b e = (omega arith, omega arith)

-- the object of a place
of_place : (s o i : ℕ) → o < MAX_OBJECTS → place s o ≡ i → i % MAX_OBJECTS ≡ o
of_place s o i small here = omega arith

-- in one word, other subjects and modes have other bits
pub other_bit : (p s : ℕ) (y x : Mode) → p / 8 ≡ s / 8 → (p ≡ s → mode_number y ≡ mode_number x → ⊥) → bit_of p y ≢ bit_of s x
other_bit p s y x block differ same = let a = mode_small y in let b = mode_small x in differ (omega arith) (omega arith)

pub bit_small : (p : ℕ) (y : Mode) → bit_of p y < 32
bit_small p y = let a = mode_small y in omega arith

-- an entry behind those that were taken, which stand behind the base
module _ (start : State) (bs t : List Entry) (e : Entry) (said : e.reply ≡ reply (fold start (bs ++ t)) e.request) where
  abbrev old : List Entry
  old = bs ++ t

  abbrev new : List Entry
  new = bs ++ (t ++ e ∷ [])

  abbrev touch : Touch
  touch = touch_of e

  left_else : (u : Triple) → may_change touch u ≡ false → set.contains (fold start new).accesses u ≡ set.contains (fold start old).accesses u
  left_else u ne = ap (λ es. set.contains (fold start es).accesses u) (sym (append_assoc bs t (e ∷ []))) ∙ entry_else start old e u said ne

  -- nothing is changed
  pub quiet_nothing : (notes : List Note) (cells : ℕ) → touch ≡ Nothing → Quiet start old new notes cells
  quiet_nothing notes cells is i w few agrees was known s o x small here = was known s o x small here ∙ sym (left_else (s, o, x) (ap (λ (z : Touch). may_change z (s, o, x)) is))

  new_is : fold start new ≡ after_reply e.reply (fold start old) (change (fold start old) e.request.subject e.request.action)
  new_is = ap (fold start) (sym (append_assoc bs t (e ∷ []))) ∙ after_entry start old e said

  -- objects are deleted, and the words of the others are as they were
  pub quiet_rest : (notes : List Note) (cells : ℕ) → touch ≡ Many → OfActive (fold start new) notes cells → Quiet start old new notes cells
  quiet_rest notes cells is rest i w few agrees was known s o x small here = let v = fold start old in let r = e.request in
      let object : i % MAX_OBJECTS ≡ o = of_place s o i small here in
      let there : is_active (after_reply e.reply v (change v r.subject r.action)) o ≡ true = subst (λ (z : State × ℕ). is_active z.0 z.1 ≡ true) (λ k. (new_is k, object k)) (rest i w few known agrees) in
      was known s o x small here ∙ sym (ap (λ (z : State). set.contains z.accesses (s, o, x)) new_is
      ∙ reply_there e.reply v (change v r.subject r.action) (touch_asked r.subject r.action) o s x is there (λ a b. change_there v r.subject r.action o s x a b))

  module _ (s o : ℕ) (x : Mode) (is : touch ≡ One s o x) where
    other_triple : (p q : ℕ) (y : Mode) → (p ≡ s → q ≡ o → mode_number y ≡ mode_number x → ⊥) → set.contains (fold start new).accesses (p, q, y) ≡ set.contains (fold start old).accesses (p, q, y)
    other_triple p q y differ = left_else (p, q, y) (ap (λ (z : Touch). may_change z (p, q, y)) is ∙ not_same p q s o y x differ)

    -- what is changed has no word
    pub quiet_past : (notes : List Note) (cells : ℕ) → (o < MAX_OBJECTS → cells ≤ place s o) → Quiet start old new notes cells
    quiet_past notes cells past i w few agrees was known p q y small here = was known p q y small here
        ∙ sym (other_triple p q y (λ a b _. (let out = past (subst (λ (z : ℕ). z < MAX_OBJECTS) b small) in let same : place p q ≡ place s o = (λ k. place (a k) (b k)) in absurd (omega arith))))

    others_tell : (i w : ℕ) → i ≢ place s o → Tells (fold start old) i w → Tells (fold start new) i w
    others_tell i w ne was known p q y small here = was known p q y small here ∙ sym (other_triple p q y (λ a b _. ne (sym here ∙ (λ k. place (a k) (b k)))))

    -- what the triple is then
    pub made_so : set.contains (fold start new).accesses (s, o, x) ≡ makes_access e.request.action
    made_so = let v = fold start old in let r = e.request in ap (λ (z : State). set.contains z.accesses (s, o, x)) new_is
        ∙ reply_at e.reply v (change v r.subject r.action) (touch_asked r.subject r.action) s o x (makes_access r.action) is (λ a. change_at v r.subject r.action s o x a)

    -- one bit is changed
    pub one_bit : (w w' : ℕ) → o < MAX_OBJECTS → w ≢ 0 → Tells (fold start old) (place s o) w → has_bit w' (bit_of s x) ≡ set.contains (fold start new).accesses (s, o, x)
        → ((i : ℕ) → i < 64 → i ≢ bit_of s x → has_bit w' i ≡ has_bit w i) → Tells (fold start new) (place s o) w'
    one_bit w w' within known was bit rest _ p q y small here = let at = same_place p q s o small within here in dite (ℕ_discrete p s)
        (λ (a : p ≡ s). dite (ℕ_discrete (mode_number y) (mode_number x))
        (λ c. subst (λ (z : ℕ × ℕ × Mode). has_bit w' (bit_of z.0 z.2) ≡ set.contains (fold start new).accesses (z.0, z.1, z.2)) (λ k. (sym a k, sym at.0 k, sym (same_mode y x c) k)) bit)
        (λ nc. unchanged p q y small here at.1 (λ _ c. nc c)))
        (λ na. unchanged p q y small here at.1 (λ a _. na a))
      where
        unchanged : (p q : ℕ) (y : Mode) → q < MAX_OBJECTS → place p q ≡ place s o → p / 8 ≡ s / 8 → (p ≡ s → mode_number y ≡ mode_number x → ⊥)
            → has_bit w' (bit_of p y) ≡ set.contains (fold start new).accesses (p, q, y)
        unchanged p q y small here block differ = let few = bit_small p y in rest (bit_of p y) (omega arith) (other_bit p s y x block differ)
            ∙ (was known p q y small here ∙ sym (other_triple p q y (λ a b c. differ a c)))

    -- a word that is made from one that told, or stays blank
    pub tells_after : (w w' : ℕ) → o < MAX_OBJECTS → Tells (fold start old) (place s o) w → (w ≡ 0 → w' ≡ 0) → (w ≢ 0 → has_bit w' (bit_of s x) ≡ makes_access e.request.action)
        → (w ≢ 0 → (i : ℕ) → i < 64 → i ≢ bit_of s x → has_bit w' i ≡ has_bit w i) → Tells (fold start new) (place s o) w'
    tells_after w w' within was none bit rest = dite (ℕ_discrete w 0) (λ z. λ known. absurd (known (none z))) (λ some. one_bit w w' within some was (bit some ∙ sym made_so) (rest some))

    -- the word is stored
    pub one_word : (notes : List Note) (cells w : ℕ) → Tells (fold start new) (place s o) w → OneWord start old new notes cells (place s o) w
    one_word notes cells w tells = record { now = tells; others = λ i u ne few agrees was. others_tell i u ne was }

    -- the word is blank
    pub quiet_blank : (notes : List Note) (cells : ℕ) → ((w : ℕ) → Agrees notes (place s o) w → w ≡ 0) → Quiet start old new notes cells
    quiet_blank notes cells blank i u few agrees was = dite (ℕ_discrete i (place s o)) (λ (e : i ≡ place s o). λ some. absurd (some (blank u (subst (λ (p : ℕ). Agrees notes p u) e agrees)))) (λ ne. others_tell i u ne was)

    -- the word stays as it was read
    pub quiet_word : (notes : List Note) (cells w : ℕ) → Tells (fold start new) (place s o) w → Quiet start old new (note (place s o) w ∷ notes) cells
    quiet_word notes cells w tells i u few agrees was = dite (ℕ_discrete i (place s o)) (λ (e : i ≡ place s o). subst (λ (z : ℕ × ℕ). Tells (fold start new) z.0 z.1) (λ k. (sym e k, sym (agrees.0 e) k)) tells) (λ ne. others_tell i u ne was)

-- a word is written anew where no entry is made
pub same_word : (start : State) (es : List Entry) (notes : List Note) (cells at word : ℕ) → Tells (fold start es) at word → OneWord start es es notes cells at word
same_word start es notes cells at word tells = record { now = tells; others = λ i w ne few agrees was. was }

-- a word that tells the bits below k of the eight subjects from `first` on
abbrev pub BitsBelow : State → ℕ → ℕ → ℕ → ℕ → Type 0
BitsBelow v first o k w = (i : ℕ) → i < k → (y : Mode) → mode_number y ≡ i % 4 → has_bit w i ≡ set.contains v.accesses (first + i / 4, o, y)

pub no_bits : (v : State) (first o w : ℕ) → BitsBelow v first o 0 w
no_bits v first o w i below y is = absurd (omega arith)

pub next_bit : (v : State) (first o k w w' : ℕ) (m : Mode) (held : Bool) → mode_number m ≡ k % 4 → k < 32 → held ≡ set.contains v.accesses (first + k / 4, o, m) → has_bit w' k ≡ held
    → ((i : ℕ) → i < 64 → i ≢ k → has_bit w' i ≡ has_bit w i) → BitsBelow v first o k w → BitsBelow v first o (k + 1) w'
next_bit v first o k w w' m held mode few is bit rest below i within y at = dite (ℕ_discrete i k)
    (λ (e : i ≡ k). subst (λ (z : ℕ × Mode). has_bit w' z.0 ≡ set.contains v.accesses (first + z.0 / 4, o, z.1)) (λ j. (sym e j, sym (same_mode y m (at ∙ (ap (λ (q : ℕ). q % 4) e ∙ sym mode))) j)) (bit ∙ is))
    (λ ne. rest i (omega arith) ne ∙ below i (omega arith) y at)

pub bits_tell : (v : State) (s o w w' : ℕ) → o < MAX_OBJECTS → BitsBelow v (s / 8 * 8) o 32 w → ((i : ℕ) → i < 64 → i ≢ 32 → has_bit w' i ≡ has_bit w i) → Tells v (place s o) w'
bits_tell v s o w w' within below rest known p q y small here = let at = same_place p q s o small within here in let few = bit_small p y in let m = mode_small y in
    let subject : s / 8 * 8 + bit_of p y / 4 ≡ p = (let block = at.1 in omega arith) in
    rest (bit_of p y) (omega arith) (omega arith) ∙ (below (bit_of p y) few y (omega arith) ∙ (λ k. set.contains v.accesses (subject k, sym at.0 k, y)))

-- a word that has a bit isn't blank
pub full_some : (w : ℕ) → has_bit w 32 ≡ true → w ≢ 0
full_some w bit none = true≢false (sym bit ∙ ap (λ (z : ℕ). has_bit z 32) none)

-- what the function needs that makes a word
pub ruleset word_bits = (no_bits, next_bit, bits_tell)

-- what a word that was read says of one triple
pub told_by : (v : State) (s o : ℕ) (x : Mode) (at word : ℕ) → (word ≢ 0 → Tells v at word) → word ≢ 0 → at ≡ place s o → o < MAX_OBJECTS → has_bit word (bit_of s x) ≡ set.contains v.accesses (s, o, x)
told_by v s o x at word tells known is small = tells known known s o x small (sym is)
