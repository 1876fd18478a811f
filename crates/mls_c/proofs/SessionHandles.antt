-- Handles of sessions, one after the other: those that sessions are handed out into, and those that they are taken from.
use Rattle.std.proofs.Common.{◌≡◌, ℕ, suc, zero, ◌+◌, ◌<◌, ◌≤◌, true, false, ◌&&◌, not, List, [], ◌∷◌, ◌++◌, length, map, take, drop, get_or, set, refl, sym, ap, subst, ◌∙◌, arith}
use Rattle.std.proofs.lemmas.List.{append_assoc, drop_more, length_push, map-set, length-map, length-take-le, map_more, take_more}
use Rattle.std.proofs.Math.ListN.{get_or-map}
use Rattle.std.proofs.Math.Seq.{set-append_seam, get_or-append_seam}
use Rattle.std.proofs.lemmas.Bool.Decides.{nat_tests}
use Rattle.std.specs.Prelude.{Option, Some, None, IsSomeAnd, is_some, nat_lt}
use Rattle.mls_sessions.specs.Sessions.{Office, Session, newcomers, number_of}
use Rattle.mls_c.specs.Offices.{Place, NumbersBelow}
use Rattle.mls_c.specs.SessionHandles.{SessionHandle, handle_of, handles_of, AreSessionsOf, are_closed, are_open, newcomer, handed_to, handed_out, session_before, sessions_of, shut}
use Rattle.mls_c.specs.declared.session_handle.MlsSession.{MlsSession}

-- the last of two equal lists
snoc_same : {A : Type 0} (xs ys : List A) (x y : A) → xs ++ x ∷ [] ≡ ys ++ y ∷ [] → (xs ≡ ys) × (x ≡ y)
snoc_same [] [] x y e = let same : x ≡ y = cc in (refl, same)
snoc_same [] (b ∷ ys) x y e = absurd (omega (arith, ap length e, length_push ys y))
snoc_same (a ∷ xs) [] x y e = absurd (omega (arith, ap length e, length_push xs x))
snoc_same (a ∷ xs) (b ∷ ys) x y e =
    let rest : xs ++ x ∷ [] ≡ ys ++ y ∷ [] = cc in let first : a ≡ b = cc in let same = snoc_same xs ys x y rest in
    (ap (λ z. z ∷ xs) first ∙ ap (λ zs. b ∷ zs) same.0, same.1)

-- the last of newcomers, and those before it
pub last_newcomer : (o : Office) (n k : ℕ) (rest : List Session) (s : Session) → n ≡ suc k → newcomers o n ≡ rest ++ s ∷ [] → (rest ≡ newcomers o k) × (s ≡ newcomer o k)
last_newcomer o n k rest s is all =
    snoc_same rest (newcomers o k) s (newcomer o k) (sym all ∙ ap (newcomers o) is)

below_one_more : (n : ℕ) (xs : List Session) (s : Session) → NumbersBelow n xs → number_of s.view < n → NumbersBelow n (xs ++ s ∷ [])
below_one_more n [] s below lt = (lt, tt)
below_one_more n (x ∷ xs) s below lt = (below.0, below_one_more n xs s below.1 lt)

-- newcomers have numbers below their count
pub newcomers_below : (o : Office) (k n : ℕ) → k ≤ n → NumbersBelow n (newcomers o k)
newcomers_below o zero n le = tt
newcomers_below o (suc k) n le = below_one_more n (newcomers o k) (newcomer o k) (newcomers_below o k n (omega arith)) (omega arith)

-- the last of newcomers has a number above those before it
pub last_above : (o : Office) (n k : ℕ) (home rest now : List Session) (s : Session) → n ≡ suc k → home ≡ newcomers o n → home ≡ rest ++ s ∷ [] → now ≡ rest → NumbersBelow (number_of s.view) now
last_above o n k home rest now s is all split same =
    let two = last_newcomer o n k rest s is (sym all ∙ split) in
    let number : number_of s.view ≡ k = ap (λ (x : Session). number_of x.view) two.1 in
    subst (NumbersBelow (number_of s.view)) (sym (same ∙ two.0)) (subst (λ m. NumbersBelow m (newcomers o k)) (sym number) (newcomers_below o k k (omega arith)))

many_handed : (o : Office) (serial n : ℕ) → length (handed_out o serial n) ≡ n
many_handed o serial zero = refl
many_handed o serial (suc n) = let more = length_push (handed_out o serial n) (handed_to o serial n) in let few = many_handed o serial n in omega arith

-- one item more, of those that were put at the front
pub one_put : {A : Type 0} (front old now : List A) (k : ℕ) (x : A) → length front ≡ k → k < length old → now ≡ front ++ drop k old → set now k x ≡ (front ++ x ∷ []) ++ drop (k + 1) old
one_put front old now k x many room so_far =
    let rest = drop (k + 1) old in
    let now_is : now ≡ front ++ get_or old k x ∷ rest = so_far ∙ ap (λ t. front ++ t) (drop_more old k x room) in
    ap (λ t. set t k x) now_is
    ∙ subst (λ n. set (front ++ get_or old k x ∷ rest) n x ≡ front ++ x ∷ rest) many (set-append_seam front (get_or old k x) rest x)
    ∙ sym (append_assoc front (x ∷ []) rest)

same_handle : (s : MlsSession) (o : Office) (serial k : ℕ) (p : Place) → s.place.value ≡ Some p → p.office ≡ o → p.session ≡ newcomer o k → s.serial ≡ serial → s.number ≡ k
    → handle_of s ≡ handed_to o serial k
same_handle s o serial k p is office session serial_is number =
    let place : s.place.value ≡ Some (record { office = o; session = newcomer o k }) = is ∙ (λ i. Some (record { office = office i; session = session i })) in
    λ i. record { place = place i; serial = serial_is i; number = number i }

-- one handle more got its session
pub one_handed : (o : Office) (serial n k : ℕ) (old now : List MlsSession) (s : MlsSession) (p : Place) → n ≡ suc k → k < length old → s.place.value ≡ Some p → p.office ≡ o → p.session ≡ newcomer o k
    → s.serial ≡ serial → s.number ≡ k → handles_of now ≡ handed_out o serial k ++ drop k (handles_of old)
    → handles_of (set now k s) ≡ handed_out o serial n ++ drop n (handles_of old)
one_handed o serial n k old now s p is within place office session serial_is number so_far =
    let room : k < length (handles_of old) = simp length-map within in
    map-set handle_of now k s
    ∙ ap (λ h. set (handles_of now) k h) (same_handle s o serial k p place office session serial_is number)
    ∙ one_put (handed_out o serial k) (handles_of old) (handles_of now) k (handed_to o serial k) (many_handed o serial k) room so_far
    ∙ ap (λ m. (handed_out o serial k ++ handed_to o serial k ∷ []) ++ drop m (handles_of old)) (let e : k + 1 ≡ n = omega arith in e)
    ∙ ap (λ m. handed_out o serial m ++ drop n (handles_of old)) (sym is)

-- the flag of a handle
is_shut : (s : MlsSession) → s.held ≡ 0 → is_some s.place.value ≡ false
is_shut s zero_is = s.told ∙ ap (nat_lt 0) zero_is

isnt_shut : (s : MlsSession) → (s.held ≡ 0 → ⊥) → is_some s.place.value ≡ true
isnt_shut s some = let so : nat_lt 0 s.held ≡ true = grind (arith, nat_tests) in s.told ∙ so

module _ (ss : List MlsSession) (k : ℕ) (x : MlsSession) (within : k < length ss) (is : x ≡ get_or ss k x) where
  here : drop k ss ≡ x ∷ drop (k + 1) ss
  here = drop_more ss k x within ∙ ap (λ (y : MlsSession). y ∷ drop (k + 1) ss) (sym is)

  closed_here : are_closed (handles_of (drop k ss)) ≡ (not (is_some x.place.value) && are_closed (handles_of (drop (k + 1) ss)))
  closed_here = ap (λ (t : List MlsSession). are_closed (handles_of t)) here

  open_here : are_open (handles_of (drop k ss)) ≡ (is_some x.place.value && are_open (handles_of (drop (k + 1) ss)))
  open_here = ap (λ (t : List MlsSession). are_open (handles_of t)) here

  -- one handle more is closed, or is not
  pub closed_more : x.held ≡ 0 → are_closed (handles_of (drop k ss)) ≡ are_closed (handles_of ss) → are_closed (handles_of (drop (k + 1) ss)) ≡ are_closed (handles_of ss)
  closed_more it so_far = sym (closed_here ∙ ap (λ b. not b && are_closed (handles_of (drop (k + 1) ss))) (is_shut x it)) ∙ so_far

  pub not_closed : (x.held ≡ 0 → ⊥) → are_closed (handles_of (drop k ss)) ≡ are_closed (handles_of ss) → false ≡ are_closed (handles_of ss)
  not_closed it so_far = sym (closed_here ∙ ap (λ b. not b && are_closed (handles_of (drop (k + 1) ss))) (isnt_shut x it)) ∙ so_far

  -- one handle more is open, or is not
  pub open_more : (x.held ≡ 0 → ⊥) → are_open (handles_of (drop k ss)) ≡ are_open (handles_of ss) → are_open (handles_of (drop (k + 1) ss)) ≡ are_open (handles_of ss)
  open_more it so_far = sym (open_here ∙ ap (λ b. b && are_open (handles_of (drop (k + 1) ss))) (isnt_shut x it)) ∙ so_far

  pub not_open : x.held ≡ 0 → are_open (handles_of (drop k ss)) ≡ are_open (handles_of ss) → false ≡ are_open (handles_of ss)
  not_open it so_far = sym (open_here ∙ ap (λ b. b && are_open (handles_of (drop (k + 1) ss))) (is_shut x it)) ∙ so_far

same_get : {A : Type 0} (front old now : List A) (k : ℕ) (d : A) → length front ≡ k → k < length old → now ≡ front ++ drop k old → get_or now k d ≡ get_or old k d
same_get front old now k d many room so_far =
    let now_is : now ≡ front ++ get_or old k d ∷ drop (k + 1) old = so_far ∙ ap (λ t. front ++ t) (drop_more old k d room) in
    ap (λ t. get_or t k d) now_is ∙ subst (λ n. get_or (front ++ get_or old k d ∷ drop (k + 1) old) n d ≡ get_or old k d) many (get_or-append_seam front (get_or old k d) (drop (k + 1) old) d)

-- one handle more is shut
module _ (old now : List MlsSession) (k : ℕ) (x : MlsSession) (within : k < length old) (is : x ≡ get_or now k x) (so_far : handles_of now ≡ map shut (take k (handles_of old)) ++ drop k (handles_of old)) where
  room : k < length (handles_of old)
  room = simp length-map within

  many : length (map shut (take k (handles_of old))) ≡ k
  many = length-map (take k (handles_of old)) shut ∙ length-take-le k (handles_of old) (omega (arith, room))

  -- its handle is as it was
  pub handle_there : handle_of x ≡ get_or (handles_of old) k (handle_of x)
  handle_there = ap handle_of is ∙ sym (get_or-map handle_of now k x) ∙ same_get (map shut (take k (handles_of old))) (handles_of old) (handles_of now) k (handle_of x) many room so_far

  pub one_shut : (s : MlsSession) → s.place.value ≡ None → s.serial ≡ x.serial → s.number ≡ x.number
      → handles_of (set now k s) ≡ map shut (take (k + 1) (handles_of old)) ++ drop (k + 1) (handles_of old)
  one_shut s place serial number =
      let front = map shut (take k (handles_of old)) in
      let handle : handle_of s ≡ shut (handle_of x) = λ i. record { place = place i; serial = serial i; number = number i } in
      map-set handle_of now k s
      ∙ one_put front (handles_of old) (handles_of now) k (handle_of s) many room so_far
      ∙ ap (λ h. (front ++ h ∷ []) ++ drop (k + 1) (handles_of old)) (handle ∙ ap shut handle_there)
      ∙ ap (λ t. t ++ drop (k + 1) (handles_of old)) (sym (map_more shut (handles_of old) k (handle_of x) room))

-- the session of a place, of those with the numbers from i on
session_at_place : (o : Office) (i k : ℕ) (hs : List SessionHandle) (d : SessionHandle) → k < length hs → AreSessionsOf o i hs
    → IsSomeAnd (get_or hs k d).place (λ p. (p.office ≡ o) × (number_of p.session.view ≡ i + k))
session_at_place o i k [] d within all = absurd (omega arith)
session_at_place o i zero (h ∷ hs) d within all = subst (λ n. IsSomeAnd h.place (λ p. (p.office ≡ o) × (number_of p.session.view ≡ n))) (let e : i ≡ i + zero = omega arith in e) all.0
session_at_place o i (suc k) (h ∷ hs) d within all =
    subst (λ n. IsSomeAnd (get_or hs k d).place (λ p. (p.office ≡ o) × (number_of p.session.view ≡ n))) (let e : (i + 1) + k ≡ i + suc k = omega arith in e)
    (session_at_place o (i + 1) k hs d (omega arith) all.1)

in_place : (o : Office) (n : ℕ) (place : Option Place) (p : Place) → place ≡ Some p → IsSomeAnd place (λ q. (q.office ≡ o) × (number_of q.session.view ≡ n)) → (p.office ≡ o) × (number_of p.session.view ≡ n)
in_place o n place p is it = subst (λ (x : Option Place). IsSomeAnd x (λ q. (q.office ≡ o) × (number_of q.session.view ≡ n))) is it

none_isnt : (place : Option Place) (o : Office) (n : ℕ) → place ≡ None → IsSomeAnd place (λ q. (q.office ≡ o) × (number_of q.session.view ≡ n)) → ⊥
none_isnt place o n is it = subst (λ (y : Option Place). IsSomeAnd y (λ q. (q.office ≡ o) × (number_of q.session.view ≡ n))) is it

module _ (o : Office) (old now : List MlsSession) (k : ℕ) (x : MlsSession) (within : k < length old) (is : x ≡ get_or now k x) (all : AreSessionsOf o 0 (handles_of old)) (so_far : handles_of now ≡ map shut (take k (handles_of old)) ++ drop k (handles_of old)) where
  place_there : (get_or (handles_of old) k (handle_of x)).place ≡ x.place.value
  place_there = sym (ap (λ (h : SessionHandle). h.place) (handle_there old now k x within is so_far))

  it_is : IsSomeAnd (get_or (handles_of old) k (handle_of x)).place (λ q. (q.office ≡ o) × (number_of q.session.view ≡ 0 + k))
  it_is = session_at_place o 0 k (handles_of old) (handle_of x) (let room : k < length (handles_of old) = simp length-map within in room) all

  -- a handle that is looked at has the session of its place
  pub session_there : (p : Place) → x.place.value ≡ Some p → (p.office ≡ o) × (number_of p.session.view ≡ k)
  session_there p held =
      let facts = in_place o (0 + k) (get_or (handles_of old) k (handle_of x)).place p (place_there ∙ held) it_is in
      (facts.0, facts.1 ∙ (let e : 0 + k ≡ k = omega arith in e))

  -- and one is there
  pub some_there : x.place.value ≡ None → ⊥
  some_there none = none_isnt (get_or (handles_of old) k (handle_of x)).place o (0 + k) (place_there ∙ none) it_is

sessions_more : (hs : List SessionHandle) (h : SessionHandle) (p : Place) → h.place ≡ Some p → sessions_of (hs ++ h ∷ []) ≡ sessions_of hs ++ p.session ∷ []
sessions_more [] h p is = ap (λ x. session_before x []) is
sessions_more (x ∷ hs) h p is = before x.place (sessions_more hs h p is) where
  before : (place : Option Place) → sessions_of (hs ++ h ∷ []) ≡ sessions_of hs ++ p.session ∷ [] → session_before place (sessions_of (hs ++ h ∷ [])) ≡ session_before place (sessions_of hs) ++ p.session ∷ []
  before None e = e
  before (Some q) e = ap (λ ss. q.session ∷ ss) e

-- one session more is at home
pub one_home : (old now : List MlsSession) (k : ℕ) (x : MlsSession) (p : Place) (home : List Session) → k < length old → x ≡ get_or now k x
    → handles_of now ≡ map shut (take k (handles_of old)) ++ drop k (handles_of old) → x.place.value ≡ Some p → home ≡ sessions_of (take k (handles_of old))
    → home ++ p.session ∷ [] ≡ sessions_of (take (k + 1) (handles_of old))
one_home old now k x p home within is so_far held at_home =
    let hs = handles_of old in let there = handle_there old now k x within is so_far in let room : k < length hs = simp length-map within in
    let h = get_or hs k (handle_of x) in
    ap (λ t. t ++ p.session ∷ []) at_home
    ∙ sym (sessions_more (take k hs) h p (sym (ap (λ (y : SessionHandle). y.place) there) ∙ held))
    ∙ ap sessions_of (sym (take_more hs k (handle_of x) room))

before_below : (n : ℕ) (place : Option Place) (ss : List Session) → ((p : Place) → place ≡ Some p → number_of p.session.view < n) → NumbersBelow n ss → NumbersBelow n (session_before place ss)
before_below n None ss lt below = below
before_below n (Some p) ss lt below = (lt p refl, below)

-- the sessions of the first k places have numbers below k
first_below : (o : Office) (i k n : ℕ) (hs : List SessionHandle) → AreSessionsOf o i hs → i + k ≤ n → NumbersBelow n (sessions_of (take k hs))
first_below o i zero n [] all le = tt
first_below o i zero n (h ∷ hs) all le = tt
first_below o i (suc k) n [] all le = tt
first_below o i (suc k) n (h ∷ hs) all le =
    before_below n h.place (sessions_of (take k hs)) (λ p is. let at = (in_place o i h.place p is all.0).1 in omega arith) (first_below o (i + 1) k n hs all.1 (omega arith))

-- the session of a place has a number above those at home
pub above_home : (o : Office) (old : List MlsSession) (k n : ℕ) (home : List Session) → AreSessionsOf o 0 (handles_of old) → home ≡ sessions_of (take k (handles_of old)) → n ≡ k → NumbersBelow n home
above_home o old k n home all at_home is = subst (NumbersBelow n) (sym at_home) (first_below o 0 k n (handles_of old) all (omega arith))
