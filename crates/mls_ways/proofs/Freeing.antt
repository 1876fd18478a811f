-- Releases, one after the other.
use Rattle.std.proofs.Common.{◌≡◌, ℕ, ◌+◌, ◌<◌, ◌≤◌, Bool, true, false, not, ◌&&◌, ◌||◌, ◌⊎◌, inl, inr, List, [], ◌∷◌, ◌++◌, Result, Ok, Err, nat_lt, refl, sym, ap, subst, ◌∙◌, append-nil, arith}
use Rattle.std.specs.Prelude.{◌==◌, OnOk}
use Rattle.std.specs.List.{list_any}
use Rattle.std.specs.FinSet as set
use Rattle.std.proofs.lemmas.List.{append_assoc}
use Rattle.std.proofs.lemmas.Bool.{and_parts, cases_lt, eqb-true, or_cases, or_left, or_right}
use Rattle.std.proofs.lemmas.List.Folds.{list_any-append}
use Rattle.std.proofs.lemmas.Bool.Decides.{nat_tests}
use Rattle.mls_tables.specs.Held.{is_held}
use Rattle.mls_tables.specs.Triples.{Triple, TripleSet, is_triple}
use Rattle.mls_tables.specs.declared.mode.Mode.{Mode}
use Rattle.mls_tables.specs.declared.mode.Mode.TheVariants.{Execute, Read, Append, Write}
use Rattle.mls_tables.proofs.Laws.{is_triple-itself, contains-remove-triple}
use Rattle.mls_requests.specs.declared.request.Request.{Request}
use Rattle.mls_state.specs.State.{State, is_subject, is_active}
use Rattle.mls_state.specs.Properties.{HasTree, is_known}
use Rattle.mls_requests.specs.declared.reply.Reply.TheVariants.{Yes}
use Rattle.mls_rules.specs.Rules.{reply, after}
use Rattle.mls_laws.specs.Journals.{run}
use Rattle.mls_laws.proofs.Laws.{grants}
use Rattle.mls_futures.specs.Futures.{HoldsNothing}
use Rattle.mls_futures.specs.Scripts.{AreGranted, AreToRelease}
use Rattle.mls_futures.proofs.Laws.{granted_both, run_both, release_of as release, released_one, could_without}
use Rattle.mls_rules.proofs.Laws.{after_secure}
use Rattle.mls_state.specs.Properties.{IsSecure}
use Rattle.mls_futures.specs.Closure.{CouldGet}
use Rattle.mls_futures.specs.Futures.{HasLabelsWithin}
use Rattle.mls_ways.specs.Brings.{BringsLeanly, IsLeanScript}
use Rattle.mls_ways.specs.Releases.{IsFree, Releases}

releases_both : (rs qs : List Request) → AreToRelease rs → AreToRelease qs → AreToRelease (rs ++ qs)
releases_both [] qs first later = later
releases_both (r ∷ rs) qs first later = (first.0, releases_both rs qs first.1 later)

-- none
pub releases_none : (v : State) (old : List Request) → Releases v v old old
releases_none v old = record {
  requests = [];
  added = sym (append-nil old);
  granted = tt;
  releasing = tt;
  last = refl;
  accesses = v.accesses;
  same = refl;
  less = λ t there. there;
}

-- one
pub releases_one : (v : State) (t : Triple) (w : State) (old new : List Request) → is_known v t ≡ true → w ≡ after v (release t) → new ≡ old ++ release t ∷ [] → Releases v w old new
releases_one v t w old new known is added = record {
  requests = release t ∷ [];
  added = added;
  granted = (grants v (release t) known tt, tt);
  releasing = ((t.2, t.1, refl), tt);
  last = sym is;
  accesses = set.remove v.accesses t;
  same = is ∙ released_one v t known;
  less = λ u there. (and_parts (not (is_triple u t)) (set.contains v.accesses u)
      (sym (contains-remove-triple v.accesses t u) ∙ ap (λ (z : State). set.contains z.accesses u) (sym (is ∙ released_one v t known)) ∙ there)).1;
}

pub released_free : (v : State) (t : Triple) (w : State) → is_known v t ≡ true → w ≡ after v (release t) → set.contains w.accesses t ≡ false
released_free v t w known is =
    ap (λ (z : State). set.contains z.accesses t) (is ∙ released_one v t known)
    ∙ contains-remove-triple v.accesses t t ∙ ap (λ c. not c && set.contains v.accesses t) (is_triple-itself t)

-- some and then others
pub releases_on : (v w u : State) (old mid new : List Request) → Releases v w old mid → Releases w u mid new → Releases v u old new
releases_on v w u old mid new first second = record {
  requests = first.requests ++ second.requests;
  added = second.added ∙ ap (λ t. t ++ second.requests) first.added ∙ append_assoc old first.requests second.requests;
  granted = granted_both v first.requests second.requests first.granted (subst (λ z. AreGranted z second.requests) (sym first.last) second.granted);
  releasing = releases_both first.requests second.requests first.releasing second.releasing;
  last = run_both v first.requests second.requests ∙ ap (λ z. run z second.requests) first.last ∙ second.last;
  accesses = second.accesses;
  same = second.same ∙ ap (λ (z : State). record z { accesses = second.accesses }) first.same;
  less = λ t there. first.less t (second.less t there);
}

-- what isn't held isn't held then
pub still_free : (v w : State) (old new : List Request) (t : Triple) → Releases v w old new → set.contains v.accesses t ≡ false → set.contains w.accesses t ≡ false
still_free v w old new t r none = from (set.contains w.accesses t) refl where
  from : (c : Bool) → set.contains w.accesses t ≡ c → set.contains w.accesses t ≡ false
  from true is = let no : true ≡ false = sym (r.less t is) ∙ none in cc
  from false is = is

pub free_still : (v w : State) (old new : List Request) (s o : ℕ) → Releases v w old new → IsFree v s o → IsFree w s o
free_still v w old new s o r free x = still_free v w old new (s, o, x) r (free x)

pub subject_still : (v w : State) (old new : List Request) (s : ℕ) → Releases v w old new → is_subject v s ≡ true → is_subject w s ≡ true
subject_still v w old new s r known = ap (λ z. is_subject z s) r.same ∙ known

pub object_still : (v w : State) (old new : List Request) (o : ℕ) → Releases v w old new → is_active v o ≡ true → is_active w o ≡ true
object_still v w old new o r active = ap (λ z. is_active z o) r.same ∙ active

pub four_free : (v : State) (s o : ℕ) → set.contains v.accesses (s, o, Execute) ≡ false → set.contains v.accesses (s, o, Read) ≡ false → set.contains v.accesses (s, o, Append) ≡ false
    → set.contains v.accesses (s, o, Write) ≡ false → IsFree v s o
four_free v s o e r a w Execute = e
four_free v s o e r a w Read = r
four_free v s o e r a w Append = a
four_free v s o e r a w Write = w

-- what isn't held in any mode
pub not_held : (v : State) (s o : ℕ) → is_held v.accesses s o ≡ false → IsFree v s o
not_held v s o none x = from (set.contains v.accesses (s, o, x)) refl where
  held : (y : Mode) → set.contains v.accesses (s, o, y) ≡ true → is_held v.accesses s o ≡ true
  held Execute is = or_left (set.contains v.accesses (s, o, Execute)) _ is
  held Read is = or_right (set.contains v.accesses (s, o, Execute)) _ (or_left (set.contains v.accesses (s, o, Read)) _ is)
  held Append is =
      or_right (set.contains v.accesses (s, o, Execute)) _ (or_right (set.contains v.accesses (s, o, Read)) _ (or_left (set.contains v.accesses (s, o, Append)) _ is))
  held Write is =
      or_right (set.contains v.accesses (s, o, Execute)) _
      (or_right (set.contains v.accesses (s, o, Read)) _ (or_right (set.contains v.accesses (s, o, Append)) (set.contains v.accesses (s, o, Write)) is))

  from : (c : Bool) → set.contains v.accesses (s, o, x) ≡ c → set.contains v.accesses (s, o, x) ≡ false
  from true is = let no : true ≡ false = sym (held x is) ∙ none in cc
  from false is = is

-- a subject holds nothing once what it held is released
pub subject_free : (v w : State) (old new : List Request) (s o : ℕ) (listed : Bool) → Releases v w old new → listed ≡ is_held v.accesses s o → (listed ≡ true → IsFree w s o) → IsFree w s o
subject_free v w old new s o true r is free = free refl
subject_free v w old new s o false r is free = free_still v w old new s o r (not_held v s o (sym is))

-- nobody holds anything
pub all_free : (v w : State) (old new : List Request) (n : ℕ) → HasTree v → ((s : ℕ) → is_subject v s ≡ nat_lt s n) → Releases v w old new → ((s : ℕ) → s < n → (o : ℕ) → IsFree w s o)
    → HoldsNothing w
all_free v w old new n h count r free t = from (set.contains w.accesses t) refl where
  from : (c : Bool) → set.contains w.accesses t ≡ c → set.contains w.accesses t ≡ false
  from true is =
      let known : nat_lt t.0 n ≡ true = sym (count t.0) ∙ (and_parts (is_subject v t.0) (is_active v t.1) (h.accesses_known t (r.less t is))).0 in
      let below : t.0 < n = grind (arith, nat_tests, known) in
      free t.0 below t.1 t.2
  from false is = is

-- what releases leave as it was
released_run : (v w : State) (rs : List Request) → IsSecure v → run v rs ≡ w → IsSecure w
released_run v w [] h is = subst IsSecure is h
released_run v w (r ∷ rs) h is = released_run (after v r) w rs (after_secure v r h) is

pub released_secure : (v w : State) (old new : List Request) → Releases v w old new → IsSecure v → IsSecure w
released_secure v w old new r h = released_run v w r.requests h r.last

pub released_within : (v w : State) (old new : List Request) → Releases v w old new → HasLabelsWithin v → HasLabelsWithin w
released_within v w old new r within = subst HasLabelsWithin (sym r.same) within

pub released_could : (v w : State) (acts : ℕ → Bool) (s o : ℕ) (x : Mode) (old new : List Request) → Releases v w old new → CouldGet v acts s o x → CouldGet w acts s o x
released_could v w acts s o x old new r could = subst (λ z. CouldGet z acts s o x) (sym r.same) (could_without v acts r.accesses s o x could)

-- the whole script
pub brings_leanly : (v w : State) (acts : ℕ → Bool) (t : Triple) (releases requests : List Request) → Releases v w [] releases → HoldsNothing w → IsLeanScript w acts t requests
    → BringsLeanly v acts t releases requests
brings_leanly v w acts t releases requests r nothing lean =
    subst (λ rs. BringsLeanly v acts t rs requests) (sym r.added)
    (record {
      releasing = r.releasing;
      granted = r.granted;
      released = subst HoldsNothing (sym r.last) nothing;
      behind = subst (λ z. IsLeanScript z acts t requests) (sym r.last) lean;
    })

pub release_granted : (v : State) (t : Triple) → is_known v t ≡ true → reply v (release t) ≡ Yes
release_granted v t known = grants v (release t) known tt

-- what a subject holds is released, one object after the other
pub none_listed : (v : State) (s : ℕ) (k : ℕ) → list_any (λ a. k == a) [] ≡ true → IsFree v s k
none_listed v s k there = let no : false ≡ true = there in cc

pub one_listed : (v w : State) (old new : List Request) (s o : ℕ) (xs more : List ℕ) → more ≡ xs ++ o ∷ [] → Releases v w old new
    → ((k : ℕ) → list_any (λ a. k == a) xs ≡ true → IsFree v s k) → IsFree w s o → (k : ℕ) → list_any (λ a. k == a) more ≡ true → IsFree w s k
one_listed v w old new s o xs more is r free last k there = from (or_cases (list_any (λ a. k == a) xs) (list_any (λ a. k == a) (o ∷ [])) both) where
  both : (list_any (λ a. k == a) xs || list_any (λ a. k == a) (o ∷ [])) ≡ true
  both = sym (list_any-append (λ a. k == a) xs (o ∷ [])) ∙ ap (list_any (λ a. k == a)) (sym is) ∙ there

  at_last : (c : Bool) → (k == o) ≡ c → (c || false) ≡ true → IsFree w s k
  at_last true same there = subst (λ q. IsFree w s q) (sym (eqb-true k o same)) last
  at_last false same there = cc

  from : (list_any (λ a. k == a) xs ≡ true) ⊎ (list_any (λ a. k == a) (o ∷ []) ≡ true) → IsFree w s k
  from (inl earlier) = free_still v w old new s k r (free k earlier)
  from (inr here) = at_last (k == o) refl here

-- a subject holds nothing once what it held is released
pub all_listed : {E : Type 0} (result : Result (Unit {0}) E) (v w : State) (old new : List Request) (s : ℕ) (listed : ℕ → Bool) → ((o : ℕ) → listed o ≡ is_held v.accesses s o)
    → OnOk result (Releases v w old new) → OnOk result ((o : ℕ) → listed o ≡ true → IsFree w s o) → OnOk result ((o : ℕ) → IsFree w s o)
all_listed (Ok x) v w old new s listed is r free = λ o. subject_free v w old new s o (listed o) r (is o) (free o)
all_listed (Err f) v w old new s listed is r free = tt

-- what the subjects so far held is released
pub no_subject : (v : State) (s : ℕ) → s < 0 → (o : ℕ) → IsFree v s o
no_subject v s below = absurd (omega (arith, below))

pub one_subject : (v w : State) (old new : List Request) (n : ℕ) → Releases v w old new → ((s : ℕ) → s < n → (o : ℕ) → IsFree v s o) → ((o : ℕ) → IsFree w n o)
    → (s : ℕ) → s < n + 1 → (o : ℕ) → IsFree w s o
one_subject v w old new n r free last s below o = from (cases_lt s n) where
  from : (s < n) ⊎ (n ≤ s) → IsFree w s o
  from (inl earlier) = free_still v w old new s o r (free s earlier o)
  from (inr late) = let is : n ≡ s = omega (arith, below, late) in subst (λ q. IsFree w q o) is (last o)

-- the same from a state that is another one's copy
pub brings_from : (f v w : State) (acts : ℕ → Bool) (t : Triple) (old releases requests : List Request) → v ≡ f → old ≡ [] → Releases v w old releases → HoldsNothing w
    → IsLeanScript w acts t requests → BringsLeanly f acts t releases requests
brings_from f v w acts t old releases requests is none r nothing lean =
    subst (λ z. BringsLeanly z acts t releases requests) is (brings_leanly v w acts t releases requests (subst (λ rs. Releases v w rs releases) none r) nothing lean)
