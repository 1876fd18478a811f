-- The table of objects' counterparts: how it begins, and how it goes on.
use Rattle.std.proofs.Common.{◌≡◌, ℕ, zero, suc, ◌+◌, ◌<◌, Bool, true, false, cond, List, [], ◌∷◌, ◌++◌, Option, Some, None, length, map, set, get_or, replicate, All, refl, sym, ap, ◌∙◌, subst, inl, inr, arith}
use Rattle.std.specs.Prelude.{◌⊎◌, ◌==◌, nat_le}
use Rattle.std.proofs.lemmas.Bool.{eqb-true, eqb-false}
use Rattle.std.proofs.lemmas.Bool.Decides.{nat_tests}
use Rattle.std.proofs.lemmas.List.{length-replicate, map-append, map-set, length-set, get_or-set_same, get_or-set_other}
use Rattle.std.proofs.lemmas.List.Elements.{All-nil, All-cons, All-head, All-tail, All-set}
use Rattle.mls_compare.specs.Carriers.{if_still, IsBefore, Holds, from_the_beginning}
use Rattle.mls_differences.specs.Counterparts.{counterpart, counterparts}
use Rattle.mls_compare.specs.Following.{other_than, without, after_create}
use Rattle.mls_requests.specs.declared.reason.Reason.{Reason}
use Rattle.mls_requests.specs.declared.reply.Reply.{Reply}
use Rattle.mls_requests.specs.declared.reply.Reply.TheVariants.{Yes, No, Undefined}
use Rattle.mls_compare.proofs.Labels.{counterparts_next}
use Rattle.mls_compare.specs.declared.object_table.Since.{Since}
use Rattle.mls_compare.specs.declared.object_table.ObjectTable.{ObjectTable}

-- a counterpart from before a time, once a number ceases to be one at that time
one_ceases : (ceased : List ℕ) (p time : ℕ) (slot : Option Since) → p < length ceased → IsBefore time slot
    → if_still (set ceased p time) slot ≡ other_than p (if_still ceased slot)
one_ceases ceased p time None room before = refl
one_ceases ceased p time (Some c) room before = by_number (c.object == p) (nat_le (get_or ceased c.object 0) c.time) refl refl where
  kept : Bool → Option ℕ
  kept b = cond b (Some c.object) None

  at_same : c.object == p ≡ true → nat_le (get_or (set ceased p time) c.object 0) c.time ≡ false
  at_same same =
      let here : c.object ≡ p = eqb-true c.object p same in
      let there : get_or (set ceased p time) c.object 0 ≡ time = ap (λ k. get_or (set ceased p time) k 0) here ∙ get_or-set_same ceased p time 0 room in
      let late : nat_le time c.time ≡ false = grind (arith, nat_tests, before) in
      ap (λ k. nat_le k c.time) there ∙ late

  at_other : c.object == p ≡ false → nat_le (get_or (set ceased p time) c.object 0) c.time ≡ nat_le (get_or ceased c.object 0) c.time
  at_other other = ap (λ k. nat_le k c.time) (get_or-set_other ceased p c.object time 0 (eqb-false c.object p other))

  by_number : (same still : Bool) → c.object == p ≡ same → nat_le (get_or ceased c.object 0) c.time ≡ still
      → cond (nat_le (get_or (set ceased p time) c.object 0) c.time) (Some c.object) None ≡ other_than p (cond still (Some c.object) None)
  by_number true true same still =
      ap (λ b. cond b (Some c.object) None) (at_same same) ∙ sym (ap (λ b. cond b None (Some c.object)) same)
  by_number true false same still = ap (λ b. cond b (Some c.object) None) (at_same same)
  by_number false true same still =
      ap (λ b. cond b (Some c.object) None) (at_other same ∙ still) ∙ sym (ap (λ b. cond b None (Some c.object)) same)
  by_number false false same still = ap (λ b. cond b (Some c.object) None) (at_other same ∙ still)

all_cease : (ceased : List ℕ) (p time : ℕ) (slots : List (Option Since)) → p < length ceased → All (IsBefore time) slots
    → map (if_still (set ceased p time)) slots ≡ without p (map (if_still ceased) slots)
all_cease ceased p time [] room before = refl
all_cease ceased p time (slot ∷ slots) room before =
    λ i. one_ceases ceased p time slot room (All-head (IsBefore time) slot slots before) i
    ∷ all_cease ceased p time slots room (All-tail (IsBefore time) slot slots before) i

-- what was before a time was before the next
one_later : (time : ℕ) (slot : Option Since) → IsBefore time slot → IsBefore (time + 1) slot
one_later time None before = tt
one_later time (Some c) before = omega (arith, before)

all_later : (time : ℕ) (slots : List (Option Since)) → All (IsBefore time) slots → All (IsBefore (time + 1)) slots
all_later time [] before = All-nil (IsBefore (time + 1))
all_later time (slot ∷ slots) before =
    All-cons (IsBefore (time + 1)) slot slots (one_later time slot (All-head (IsBefore time) slot slots before))
    (all_later time slots (All-tail (IsBefore time) slot slots before))

pub later : (time : ℕ) (objects : List (Option ℕ)) (t : ObjectTable) → Holds time objects t → Holds (time + 1) objects t
later time objects t holds = record {
  objects = holds.objects;
  before = all_later time t.objects.items holds.before;
  room = holds.room;
}

-- a number ceases to be a counterpart
pub ceases : (time p : ℕ) (objects : List (Option ℕ)) (t new : ObjectTable) → p < 65536 → new.objects.items ≡ t.objects.items
    → new.ceased.items ≡ set t.ceased.items p time → Holds time objects t → Holds time (without p objects) new
ceases time p objects t new small same noted holds =
    let room : p < length t.ceased.items = omega (arith, small, holds.room) in
    record {
      objects =
          (λ i. map (if_still (noted i)) (same i)) ∙ all_cease t.ceased.items p time t.objects.items room holds.before
          ∙ ap (without p) holds.objects;
      before = subst (All (IsBefore time)) (sym same) holds.before;
      room = ap length noted ∙ length-set t.ceased.items p time ∙ holds.room;
    }

pub ceases_later : (time p : ℕ) (objects : List (Option ℕ)) (t new : ObjectTable) → p < 65536 → new.objects.items ≡ t.objects.items
    → new.ceased.items ≡ set t.ceased.items p time → Holds time objects t → Holds (time + 1) (without p objects) new
ceases_later time p objects t new small same noted holds =
    later time (without p objects) new (ceases time p objects t new small same noted holds)

-- an object has no counterpart any more
pub cleared : (time o : ℕ) (objects : List (Option ℕ)) (t new : ObjectTable) → new.objects.items ≡ set t.objects.items o None
    → new.ceased.items ≡ t.ceased.items → Holds time objects t → Holds (time + 1) (set objects o None) new
cleared time o objects t new put same holds = record {
  objects =
      (λ i. map (if_still (same i)) (put i)) ∙ map-set (if_still t.ceased.items) t.objects.items o None
      ∙ ap (λ l. set l o None) holds.objects;
  before =
      subst (All (IsBefore (time + 1))) (sym put)
      (All-set (IsBefore (time + 1)) t.objects.items o None tt (all_later time t.objects.items holds.before));
  room = ap length same ∙ holds.room;
}

-- an object has the counterpart that was made now
pub made : (time o p : ℕ) (objects : List (Option ℕ)) (t new : ObjectTable) → p < 65536
    → new.objects.items ≡ set t.objects.items o (Some (record { object = p; time = time }))
    → new.ceased.items ≡ set t.ceased.items p time → Holds time objects t → Holds (time + 1) (set (without p objects) o (Some p)) new
made time o p objects t new small put noted holds =
    let room : p < length t.ceased.items = omega (arith, small, holds.room) in
    let now : Option Since = Some (record { object = p; time = time }) in
    let there : get_or (set t.ceased.items p time) p 0 ≡ time = get_or-set_same t.ceased.items p time 0 room in
    let fits : nat_le time time ≡ true = grind (arith, nat_tests) in
    let stands : if_still (set t.ceased.items p time) now ≡ Some p = ap (λ k. cond (nat_le k time) (Some p) None) there ∙ ap (λ b. cond b (Some p) None) fits in
    let begun : IsBefore (time + 1) now = omega arith in
    record {
      objects =
          (λ i. map (if_still (noted i)) (put i)) ∙ map-set (if_still (set t.ceased.items p time)) t.objects.items o now
          ∙ ap (λ k. set (map (if_still (set t.ceased.items p time)) t.objects.items) o k) stands
          ∙ ap (λ l. set l o (Some p)) (all_cease t.ceased.items p time t.objects.items room holds.before ∙ ap (without p) holds.objects);
      before =
          subst (All (IsBefore (time + 1))) (sym put)
          (All-set (IsBefore (time + 1)) t.objects.items o now begun (all_later time t.objects.items holds.before));
      room = ap length noted ∙ length-set t.ceased.items p time ∙ holds.room;
    }

-- the counterparts of the numbers below the next
pub named_more : (names others : List (List ℕ)) (n : ℕ) (found new : List (Option Since)) (slot : Option Since) (o : Option ℕ)
    → found ≡ map from_the_beginning (counterparts names others n) → new ≡ found ++ slot ∷ [] → slot ≡ from_the_beginning o
    → o ≡ counterpart names others n → new ≡ map from_the_beginning (counterparts names others (n + 1))
named_more names others n found new slot o so_far added is named =
    added ∙ (λ i. so_far i ++ is i ∷ []) ∙ (λ i. map from_the_beginning (counterparts names others n) ++ from_the_beginning (named i) ∷ [])
    ∙ sym (map-append from_the_beginning (counterparts names others n) (counterpart names others n ∷ []))
    ∙ ap (map from_the_beginning) (sym (counterparts_next names others n))

-- the first counterparts, from the beginning
get_same : {X : Type 0} (x : X) (n k : ℕ) → get_or (replicate n x) k x ≡ x
get_same x zero k = refl
get_same x (suc n) zero = refl
get_same x (suc n) (suc k) = get_same x n k

one_begins : (n : ℕ) (o : Option ℕ) → if_still (replicate n 0) (from_the_beginning o) ≡ o
one_begins n None = refl
one_begins n (Some o) =
    ap (λ k. cond (nat_le k 0) (Some o) None) (get_same 0 n o)

all_begin : (n : ℕ) (objects : List (Option ℕ)) → map (if_still (replicate n 0)) (map from_the_beginning objects) ≡ objects
all_begin n [] = refl
all_begin n (o ∷ objects) = λ i. one_begins n o i ∷ all_begin n objects i

one_before : (o : Option ℕ) → IsBefore 1 (from_the_beginning o)
one_before None = tt
one_before (Some o) = omega arith

all_before : (objects : List (Option ℕ)) → All (IsBefore 1) (map from_the_beginning objects)
all_before [] = All-nil (IsBefore 1)
all_before (o ∷ objects) = All-cons (IsBefore 1) (from_the_beginning o) (map from_the_beginning objects) (one_before o) (all_before objects)

pub begins : (n : ℕ) (objects : List (Option ℕ)) (t : ObjectTable) → t.objects.items ≡ map from_the_beginning objects → t.ceased.items ≡ replicate n 0
    → n ≡ 65536 → Holds 1 objects t
begins n objects t named none room = record {
  objects = (λ i. map (if_still (none i)) (named i)) ∙ all_begin n objects;
  before = subst (All (IsBefore 1)) (sym named) (all_before objects);
  room = ap length none ∙ length-replicate n 0 ∙ room;
}

-- an object that is made here alone has no counterpart
pub made_none : (o : ℕ) (there : Reply) (objects : List (Option ℕ)) → (there ≡ Yes) ⊎ (((x : Reason) × (there ≡ No x)) ⊎ (there ≡ Undefined))
    → set objects o None ≡ after_create o there objects
made_none o there objects (inl is) = sym (ap (λ t. after_create o t objects) is)
made_none o there objects (inr (inl (x, is))) = sym (ap (λ t. after_create o t objects) is)
made_none o there objects (inr (inr is)) = sym (ap (λ t. after_create o t objects) is)
