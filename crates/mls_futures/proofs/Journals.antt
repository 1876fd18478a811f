-- Journals of requests: each entry with the reply that the rules give.
use Rattle.std.proofs.Common.{◌≡◌, ℕ, zero, suc, ◌+◌, Bool, true, false, not, ◌&&◌, ◌||◌, List, [], ◌∷◌, ◌++◌, take, Some, refl, ap, subst, ◌∙◌, arith}
use Rattle.std.specs.Prelude.{slice_get}
use Rattle.std.specs.List.{list_any}
use Rattle.std.specs.Ordering.{eq_by_cmp}
use Rattle.std.proofs.lemmas.Bool.{or_left, or_right}
use Rattle.std.specs.FinSet as set
use Rattle.mls_tables.specs.Triples.{Triple, TripleSet, triple_cmp, is_triple}
use Rattle.mls_tables.specs.declared.mode.Mode.{Mode}
use Rattle.mls_tables.proofs.Laws.{is_triple-itself, contains-remove-triple, eq_by_cmp-triple}
use Rattle.mls_requests.specs.declared.action.Action.TheVariants.{Release}
use Rattle.mls_requests.specs.declared.request.Request.{Request}
use Rattle.mls_requests.specs.declared.entry.Entry.{Entry}
use Rattle.mls_state.specs.State.{State, is_active}
use Rattle.mls_state.specs.Properties.{Each, is_known}
use Rattle.mls_rules.specs.Rules.{reply, after}
use Rattle.mls_monitor.specs.Journal.{fold, IsLegal}
use Rattle.mls_laws.specs.Journals.{is_grant, StaysActive}
use Rattle.mls_laws.proofs.Laws.{grants, after_grant, by_reply}
use Rattle.mls_futures.specs.Futures.{IsByActors, AreReleases}
use Rattle.mls_futures.proofs.Scripts.{Script, done, asks}

-- the entry of a request
abbrev answered : State → ℕ → Request → Entry
answered v n r = record { number = n; session = 0; reply = reply v r; request = r }

-- the entries of some requests, from a number on
abbrev pub entries_of : State → ℕ → List Request → List Entry
entries_of v n [] = []
entries_of v n (r ∷ rs) = answered v n r ∷ entries_of (after v r) (n + 1) rs

abbrev pub number_after : ℕ → List Request → ℕ
number_after n [] = n
number_after n (r ∷ rs) = number_after (n + 1) rs

pub entries-append : (v : State) (n : ℕ) (rs qs : List Request)
    → entries_of v n (rs ++ qs) ≡ entries_of v n rs ++ entries_of (fold v (entries_of v n rs)) (number_after n rs) qs
entries-append v n [] qs = refl
entries-append v n (r ∷ rs) qs = ap (λ es. answered v n r ∷ es) (entries-append (after v r) (n + 1) rs qs)

answers : (v : State) (n : ℕ) (rs : List Request) (k : ℕ) (e : Entry) → slice_get (entries_of v n rs) k ≡ Some e
    → (e.number ≡ n + k) × (e.reply ≡ reply (fold v (take k (entries_of v n rs))) e.request)
answers v n [] k e at = cc
answers v n (r ∷ rs) zero e at =
    let is : answered v n r ≡ e = cc in
    subst (λ (f : Entry). (f.number ≡ n + 0) × (f.reply ≡ reply v f.request)) is (omega arith, refl)
answers v n (r ∷ rs) (suc k) e at =
    let later = answers (after v r) (n + 1) rs k e at in
    let number : e.number ≡ (n + 1) + k = later.0 in
    (omega (arith, number), later.1)

-- they are a legal journal
pub entries_legal : (v : State) (rs : List Request) → IsLegal v (entries_of v 0 rs)
entries_legal v rs n e at =
    let told = answers v 0 rs n e at in
    let number : e.number ≡ 0 + n = told.0 in
    record { number = omega (arith, number); reply = told.1 }

-- the requests of a script lead where the script does, are actors', and leave each object there
abbrev pub requests_of : (acts : ℕ → Bool) (v w : State) → Script acts v w → List Request
requests_of acts v w done = []
requests_of acts v w (asks r actor grant keeps rest) = r ∷ requests_of acts (after v r) w rest

pub script_leads : (acts : ℕ → Bool) (v w : State) (n : ℕ) (script : Script acts v w) → fold v (entries_of v n (requests_of acts v w script)) ≡ w
script_leads acts v w n done = refl
script_leads acts v w n (asks r actor grant keeps rest) = script_leads acts (after v r) w (n + 1) rest

pub script_by : (acts : ℕ → Bool) (v w : State) (n : ℕ) (script : Script acts v w) → IsByActors acts (entries_of v n (requests_of acts v w script))
script_by acts v w n done k e at = cc
script_by acts v w n (asks r actor grant keeps rest) zero e at =
    let is : answered v n r ≡ e = cc in subst (λ (f : Entry). acts f.request.subject ≡ true) is actor
script_by acts v w n (asks r actor grant keeps rest) (suc k) e at = script_by acts (after v r) w (n + 1) rest k e at

pub script_keeps : (acts : ℕ → Bool) (v w : State) (n : ℕ) (script : Script acts v w) (o : ℕ) → is_active v o ≡ true → StaysActive v (entries_of v n (requests_of acts v w script)) o
script_keeps acts v w n done o active zero = active
script_keeps acts v w n done o active (suc k) = active
script_keeps acts v w n (asks r actor grant keeps rest) o active zero = active
script_keeps acts v w n (asks r actor grant keeps rest) o active (suc k) = script_keeps acts (after v r) w (n + 1) rest o (keeps o active) k

-- the releases of some accesses
abbrev pub release : Triple → Request
release t = record { subject = t.0; action = Release t.2 t.1 }

abbrev pub releases_of : List Triple → List Request
releases_of [] = []
releases_of (t ∷ ts) = release t ∷ releases_of ts

pub are_releases : (v : State) (n : ℕ) (ts : List Triple) → AreReleases (entries_of v n (releases_of ts))
are_releases v n [] k e at = cc
are_releases v n (t ∷ ts) zero e at =
    let is : answered v n (release t) ≡ e = cc in
    subst (λ (f : Entry). (x : Mode) × (o : ℕ) × (f.request.action ≡ Release x o)) is (t.2, t.1, refl)
are_releases v n (t ∷ ts) (suc k) e at = are_releases (after v (release t)) (n + 1) ts k e at

-- the accesses without some of them
abbrev pub without : TripleSet → List Triple → TripleSet
without b [] = b
without b (t ∷ ts) = without (set.remove b t) ts

abbrev pub AllKnown : State → List Triple → Type 0
AllKnown v [] = Unit {0}
AllKnown v (t ∷ ts) = (is_known v t ≡ true) × AllKnown v ts

-- what is known still is without an access
pub known_after : (v : State) (t : Triple) (us : List Triple) → AllKnown v us → AllKnown (record v { accesses = set.remove v.accesses t }) us
known_after v t [] all = tt
known_after v t (u ∷ us) all = (all.0, known_after v t us all.1)

pub released_one : (v : State) (t : Triple) → is_known v t ≡ true → after v (release t) ≡ record v { accesses = set.remove v.accesses t }
released_one v t known = after_grant v (release t) (ap is_grant (grants v (release t) known tt))

pub releases_lead : (v : State) (n : ℕ) (ts : List Triple) → AllKnown v ts → fold v (entries_of v n (releases_of ts)) ≡ record v { accesses = without v.accesses ts }
releases_lead v n [] known = refl
releases_lead v n (t ∷ ts) known =
    ap (λ w. fold w (entries_of w (n + 1) (releases_of ts))) (released_one v t known.0)
    ∙ releases_lead (record v { accesses = set.remove v.accesses t }) (n + 1) ts (known_after v t ts known.1)

pub releases_keep : (v : State) (n : ℕ) (ts : List Triple) (o : ℕ) → is_active v o ≡ true → StaysActive v (entries_of v n (releases_of ts)) o
releases_keep v n [] o active zero = active
releases_keep v n [] o active (suc k) = active
releases_keep v n (t ∷ ts) o active zero = active
releases_keep v n (t ∷ ts) o active (suc k) = releases_keep (after v (release t)) (n + 1) ts o (active_after v t o active) k where
  active_after : (v : State) (t : Triple) (o : ℕ) → is_active v o ≡ true → is_active (after v (release t)) o ≡ true
  active_after v t o active = by_reply (λ w. is_active w o ≡ true) v (release t) active (λ is. active)

-- without all that are listed nothing is left
left : (b : TripleSet) (ts : List Triple) (u : Triple) → set.contains (without b ts) u ≡ (not (list_any (is_triple u) ts) && set.contains b u)
left b [] u = refl
left b (t ∷ ts) u = left (set.remove b t) ts u ∙ ap (λ c. not (list_any (is_triple u) ts) && c) (contains-remove-triple b t u) ∙ both (is_triple u t) (list_any (is_triple u) ts) (set.contains b u) where
  both : (c d e : Bool) → (not d && (not c && e)) ≡ (not (c || d) && e)
  both true true e = refl
  both true false e = refl
  both false d e = refl

listed : (b : TripleSet) (u : Triple) → set.contains b u ≡ list_any (is_triple u) (set.items b)
listed b u = set.contains-items b u ∙ same (set.items b) where
  same : (ts : List Triple) → list_any (eq_by_cmp triple_cmp u) ts ≡ list_any (is_triple u) ts
  same [] = refl
  same (t ∷ ts) = λ i. eq_by_cmp-triple u t i || same ts i

pub none_left : (b : TripleSet) (u : Triple) → set.contains (without b (set.items b)) u ≡ false
none_left b u = left b (set.items b) u ∙ ap (λ c. not (list_any (is_triple u) (set.items b)) && c) (listed b u) ∙ no_both (list_any (is_triple u) (set.items b)) where
  no_both : (c : Bool) → (not c && c) ≡ false
  no_both true = refl
  no_both false = refl

-- what is held is known
pub all_known : (v : State) → Each v.accesses (is_known v) → AllKnown v (set.items v.accesses)
all_known v known = from (set.items v.accesses) (λ u there. known u (listed v.accesses u ∙ there)) where
  from : (ts : List Triple) → ((u : Triple) → list_any (is_triple u) ts ≡ true → is_known v u ≡ true) → AllKnown v ts
  from [] all = tt
  from (t ∷ ts) all =
      (all t (or_left (is_triple t t) (list_any (is_triple t) ts) (is_triple-itself t)), from ts (λ u there. all u (or_right (is_triple u t) (list_any (is_triple u) ts) there)))

-- journals one after the other
pub legal_both : (v : State) (rs qs : List Request)
    → IsLegal v (entries_of v 0 rs ++ entries_of (fold v (entries_of v 0 rs)) (number_after 0 rs) qs)
legal_both v rs qs = subst (IsLegal v) (entries-append v 0 rs qs) (entries_legal v (rs ++ qs))

pub stays_both : (v : State) (front rest : List Entry) (o : ℕ) → StaysActive v front o → StaysActive (fold v front) rest o → StaysActive v (front ++ rest) o
stays_both v [] rest o first later n = later n
stays_both v (e ∷ front) rest o first later zero = first zero
stays_both v (e ∷ front) rest o first later (suc n) = stays_both (after v e.request) front rest o (λ k. first (suc k)) later n
