-- Which labels help a subject to a get: with one, each lower one that covers what the subject observes.
use Rattle.std.proofs.Common.{◌≡◌, ℕ, ◌<◌, ◌≤◌, ◌⊎◌, inl, inr, Bool, true, false, not, ◌&&◌, ◌||◌, nat_eq, nat_lt, nat_le, IsTrue, Option, Some, None, List, [], ◌∷◌, if◌then◌else◌, refl, sym, ap, subst, ◌∙◌, arith}
use Rattle.std.specs.Ordering.{nat_cmp}
use Rattle.std.specs.Cmp.{nat_cmp_total}
use Rattle.std.specs.Cmp.Derive.{both_true}
use Rattle.std.specs.FinMap as map
use Rattle.std.specs.FinSet as set
use Rattle.std.specs.FinSet.{is_subset, is_subset-contains, contains-is_subset, contains-empty, nat_cmp-IsAntisymmetric}
use Rattle.std.proofs.lemmas.Bool.{and_parts, and_from, or_right, false≢true, eqb-true}
use Rattle.std.proofs.lemmas.Bool.Decides.{nat_tests}
use Rattle.mls_facts.specs.Each.{each}
use Rattle.mls_facts.proofs.Each.{each-contains, contains-each}
use Rattle.mls_facts.proofs.Entries.{at_new}
use Rattle.mls_labels.specs.Label.{Label, Bounds, dominates, has_label}
use Rattle.mls_labels.proofs.Laws.{transitive}
use Rattle.mls_tables.specs.Mode.{observes}
use Rattle.mls_tables.specs.Triples.{Triple, TripleSet}
use Rattle.mls_tables.specs.declared.mode.Mode.{Mode}
use Rattle.mls_tables.specs.declared.mode.Mode.TheVariants.{Execute, Read, Append, Write}
use Rattle.mls_tables.proofs.Laws.{triples_total, same_triple}
use Rattle.mls_requests.specs.declared.reply.Reply.{Reply}
use Rattle.mls_requests.specs.declared.reply.Reply.TheVariants.{Yes, Created, No, Undefined}
use Rattle.mls_requests.specs.declared.request.Request.{Request}
use Rattle.mls_state.specs.State.{State, is_subject, is_active, is_above}
use Rattle.mls_state.specs.Changes.{with_current}
use Rattle.mls_state.specs.Properties.{discretionary_holds, simple_holds, star_between, star_holds, integrity_holds}
use Rattle.mls_rules.specs.Levels.{each_of_subject}
use Rattle.mls_rules.specs.Rules.{is_defined, conditions, AllHold, reply, change, after_reply, after}
use Rattle.mls_rules.proofs.Laws.{grant_holds}
use Rattle.mls_explain.specs.Grounds.{lowest}
use Rattle.mls_explain.specs.Remedy.{level_request, get_request, HasCategories, Helps, is_observing, Covers}

-- what replies granted is in the domain
in_domain : (b : Bool) (r : Reply) → (if b then r else Undefined) ≡ Yes → b ≡ true
in_domain true r h = refl
in_domain false r h = cc

-- after a level that was granted the subject has it
pub after_level : (v : State) (s : ℕ) (l : Label) → reply v (level_request s l) ≡ Yes → after v (level_request s l) ≡ with_current v s l
after_level v s l granted = ap (λ r. after_reply r v (with_current v s l)) granted

-- what all conditions of a level are
pub record Takes (v : State) (s : ℕ) (l : Label) : Type 0 where
  pub known : is_subject v s ≡ true
  pub within : has_label v.security l ≡ true
  pub ceiling : is_above (map.get v.maximum s) (Some l) ≡ true
  pub star : each_of_subject v s (star_holds (with_current v s l)) ≡ true

pub takes_from : (v : State) (s : ℕ) (l : Label) → reply v (level_request s l) ≡ Yes → Takes v s l
takes_from v s l granted =
    let domain = and_parts (is_subject v s) (has_label v.security l) (in_domain (is_defined v (level_request s l)) _ granted) in
    let all : AllHold (conditions v s (level_request s l).action) = grant_holds v (level_request s l) (rw granted refl) in
    record { known = domain.0; within = domain.1; ceiling = all.0; star = all.1.0 }

pub takes_yes : (v : State) (s : ℕ) (l : Label) → Takes v s l → reply v (level_request s l) ≡ Yes
takes_yes v s l takes = rw (takes.known, takes.within, takes.ceiling, takes.star) refl

-- what all conditions of a get are
pub record Gets (v : State) (s o : ℕ) (x : Mode) : Type 0 where
  pub known : is_subject v s ≡ true
  pub active : is_active v o ≡ true
  pub discretionary : discretionary_holds v (s, o, x) ≡ true
  pub simple : simple_holds v (s, o, x) ≡ true
  pub star : star_holds v (s, o, x) ≡ true
  pub integrity : integrity_holds v (s, o, x) ≡ true

pub gets_from : (v : State) (s o : ℕ) (x : Mode) → reply v (get_request s o x) ≡ Yes → Gets v s o x
gets_from v s o x granted =
    let domain = and_parts (is_subject v s) (is_active v o) (in_domain (is_defined v (get_request s o x)) _ granted) in
    let all : AllHold (conditions v s (get_request s o x).action) = grant_holds v (get_request s o x) (rw granted refl) in
    record { known = domain.0; active = domain.1; discretionary = all.0; simple = all.1.0; star = all.1.1.0; integrity = all.1.1.1.0 }

pub gets_yes : (v : State) (s o : ℕ) (x : Mode) → Gets v s o x → reply v (get_request s o x) ≡ Yes
gets_yes v s o x gets = rw (gets.known, gets.active, gets.discretionary, gets.simple, gets.star, gets.integrity) refl

-- what a label that helps is granted
pub helps_parts : (v : State) (s o : ℕ) (x : Mode) (m : Label) → Helps v s o x m → Takes v s m × Gets (with_current v s m) s o x
helps_parts v s o x m helps =
    (takes_from v s m helps.level, gets_from (with_current v s m) s o x (sym (ap (λ w. reply w (get_request s o x)) (after_level v s m helps.level)) ∙ helps.get))

pub helps_from : (v : State) (s o : ℕ) (x : Mode) (m : Label) → Takes v s m → Gets (with_current v s m) s o x → Helps v s o x m
helps_from v s o x m takes gets =
    let granted : reply v (level_request s m) ≡ Yes = takes_yes v s m takes in
    record { level = granted; get = ap (λ w. reply w (get_request s o x)) (after_level v s m granted) ∙ gets_yes (with_current v s m) s o x gets }

-- an access of a subject that the star property binds, among all of them
one_own : (v : State) (s : ℕ) (p : Triple → Bool) → each_of_subject v s p ≡ true → (o : ℕ) (x : Mode) → set.contains v.accesses (s, o, x) ≡ true → p (s, o, x) ≡ true
one_own v s p all o x there =
    let same : nat_eq s s ≡ true = grind (arith, nat_tests) in
    ap (λ c. not c || p (s, o, x)) (sym same) ∙ each-contains triples_total same_triple v.accesses (λ t. not (nat_eq t.0 s) || p t) (s, o, x) all there

pub all_own : (v : State) (s : ℕ) (p : Triple → Bool) → ((o : ℕ) (x : Mode) → set.contains v.accesses (s, o, x) ≡ true → p (s, o, x) ≡ true) → each_of_subject v s p ≡ true
all_own v s p known = contains-each triples_total same_triple v.accesses (λ t. not (nat_eq t.0 s) || p t) (λ t there. from t there (nat_eq t.0 s) refl) where
  from : (t : Triple) → set.contains v.accesses t ≡ true → (c : Bool) → nat_eq t.0 s ≡ c → (not (nat_eq t.0 s) || p t) ≡ true
  from t there true own =
      let is : t.0 ≡ s = eqb-true t.0 s own in
      or_right (not (nat_eq t.0 s)) (p t) (subst (λ k. p (k, t.1, t.2) ≡ true) (sym is) (known t.1 t.2 (subst (λ k. set.contains v.accesses (k, t.1, t.2) ≡ true) is there)))
  from t there false other = ap (λ c. not c || p t) other

-- star at a lower label that covers what is observed
star_lower : (m j : Label) (label : Option Label) (x : Mode) → IsTrue (dominates m j) → (observes x ≡ true → is_above (Some j) label ≡ true)
    → star_between (Some m) label x ≡ true → star_between (Some j) label x ≡ true
star_lower m j label Execute lower covers star = refl
star_lower m j label Read lower covers star = covers refl
star_lower m j None Append lower covers star = star
star_lower m j (Some l) Append lower covers star = transitive l m j star lower
star_lower m j None Write lower covers star = star
star_lower m j (Some l) Write lower covers star =
    and_from (dominates l j) (dominates j l) (transitive l m j (and_parts (dominates l m) (dominates m l) star).0 lower) (covers refl)

-- so does an access of the subject
own_lower : (v : State) (s o : ℕ) (x : Mode) (m j : Label) → IsTrue (dominates m j)
    → (set.contains v.trusted s ≡ false → observes x ≡ true → is_above (Some j) (map.get v.object_label o) ≡ true)
    → star_holds (with_current v s m) (s, o, x) ≡ true → star_holds (with_current v s j) (s, o, x) ≡ true
own_lower v s o x m j lower covers star = from (set.contains v.trusted s) refl where
  from : (c : Bool) → set.contains v.trusted s ≡ c → star_holds (with_current v s j) (s, o, x) ≡ true
  from true trusted = ap (λ c. c || star_between (map.get (map.insert v.current s j) s) (map.get v.object_label o) x) trusted
  from false untrusted =
      let before : star_between (map.get (map.insert v.current s m) s) (map.get v.object_label o) x ≡ true =
      ap (λ c. c || star_between (map.get (map.insert v.current s m) s) (map.get v.object_label o) x) (sym untrusted) ∙ star in
      let higher : star_between (Some m) (map.get v.object_label o) x ≡ true = ap (λ e. star_between e (map.get v.object_label o) x) (sym (at_new v.current s m)) ∙ before in
      or_right (set.contains v.trusted s) _
      (ap (λ e. star_between e (map.get v.object_label o) x) (at_new v.current s j) ∙ star_lower m j (map.get v.object_label o) x lower (covers untrusted) higher)

pub lower_within : (b : Bounds) (m j : Label) → IsTrue (dominates m j) → has_label b m ≡ true → has_label b j ≡ true
lower_within b m j lower h =
    let down = and_parts (nat_le j.level m.level) (is_subset j.categories m.categories) lower in
    let inside = and_parts (nat_lt m.level b.levels) (each m.categories (λ n. nat_lt n b.categories)) h in
    let level : nat_lt j.level b.levels ≡ true = grind (arith, nat_tests, down.0, inside.0) in
    both_true level (contains-each nat_cmp_total nat_cmp-IsAntisymmetric j.categories (λ n. nat_lt n b.categories) (λ q there.
    each-contains nat_cmp_total nat_cmp-IsAntisymmetric m.categories (λ n. nat_lt n b.categories) q inside.1 (is_subset-contains nat_cmp_total j.categories m.categories down.1 q there)))

lower_above : (upper : Option Label) (m j : Label) → IsTrue (dominates m j) → is_above upper (Some m) ≡ true → is_above upper (Some j) ≡ true
lower_above None m j lower h = h
lower_above (Some u) m j lower h = transitive u m j h lower

sees : (v : State) (s o : ℕ) (x : Mode) → observes x ≡ true → set.contains v.accesses (s, o, x) ≡ true → is_observing v s o ≡ true
sees v s o Execute isnt there = absurd (false≢true isnt)
sees v s o Read is there = ap (λ c. c || set.contains v.accesses (s, o, Write)) there
sees v s o Append isnt there = absurd (false≢true isnt)
sees v s o Write is there = or_right (set.contains v.accesses (s, o, Read)) _ there

-- a lower label helps too, where it covers what an untrusted subject observes and would
pub lower_helps : (v : State) (s o : ℕ) (x : Mode) (m j : Label) → IsTrue (dominates m j)
    → (set.contains v.trusted s ≡ false → Covers v s j)
    → (set.contains v.trusted s ≡ false → observes x ≡ true → is_above (Some j) (map.get v.object_label o) ≡ true)
    → Helps v s o x m → Helps v s o x j
lower_helps v s o x m j lower covers observed helps =
    let parts = helps_parts v s o x m helps in
    helps_from v s o x j
    (record {
      known = parts.0.known;
      within = lower_within v.security m j lower parts.0.within;
      ceiling = lower_above (map.get v.maximum s) m j lower parts.0.ceiling;
      star = all_own v s (star_holds (with_current v s j)) (λ p y there.
          own_lower v s p y m j lower (λ untrusted looks. covers untrusted p (sees v s p y looks there)) (one_own v s (star_holds (with_current v s m)) parts.0.star p y there));
    })
    (record {
      known = parts.1.known;
      active = parts.1.active;
      discretionary = parts.1.discretionary;
      simple = parts.1.simple;
      star = own_lower v s o x m j lower observed parts.1.star;
      integrity = parts.1.integrity;
    })

-- what a label that helps covers
between : (label : Option Label) (m : Label) (x : Mode) → observes x ≡ true → star_between (Some m) label x ≡ true → is_above (Some m) label ≡ true
between label m Execute isnt star = absurd (false≢true isnt)
between label m Read is star = star
between label m Append isnt star = absurd (false≢true isnt)
between label m Write is star = (and_parts (is_above label (Some m)) (is_above (Some m) label) star).1

own_covered : (v : State) (s o : ℕ) (x : Mode) (m : Label) → set.contains v.trusted s ≡ false → observes x ≡ true
    → star_holds (with_current v s m) (s, o, x) ≡ true → is_above (Some m) (map.get v.object_label o) ≡ true
own_covered v s o x m untrusted looks star =
    between (map.get v.object_label o) m x looks
    (ap (λ e. star_between e (map.get v.object_label o) x) (sym (at_new v.current s m))
    ∙ ap (λ c. c || star_between (map.get (map.insert v.current s m) s) (map.get v.object_label o) x) (sym untrusted) ∙ star)

pub helps_covers : (v : State) (s o : ℕ) (x : Mode) (m : Label) → set.contains v.trusted s ≡ false → Helps v s o x m → Covers v s m
helps_covers v s o x m untrusted helps p observing = from (set.contains v.accesses (s, p, Read)) refl where
  star : each_of_subject v s (star_holds (with_current v s m)) ≡ true
  star = (helps_parts v s o x m helps).0.star

  from : (c : Bool) → set.contains v.accesses (s, p, Read) ≡ c → is_above (Some m) (map.get v.object_label p) ≡ true
  from true reads = own_covered v s p Read m untrusted refl (one_own v s (star_holds (with_current v s m)) star p Read reads)
  from false other =
      let writes : set.contains v.accesses (s, p, Write) ≡ true = ap (λ c. c || set.contains v.accesses (s, p, Write)) (sym other) ∙ observing in
      own_covered v s p Write m untrusted refl (one_own v s (star_holds (with_current v s m)) star p Write writes)

pub helps_observes : (v : State) (s o : ℕ) (x : Mode) (m : Label) → set.contains v.trusted s ≡ false → Helps v s o x m
    → observes x ≡ true → is_above (Some m) (map.get v.object_label o) ≡ true
helps_observes v s o x m untrusted helps looks = own_covered v s o x m untrusted looks (helps_parts v s o x m helps).1.star

-- each label dominates the lowest
pub lowest_below : (m : Label) → IsTrue (dominates m lowest)
lowest_below m =
    let level : nat_le 0 m.level ≡ true = grind (arith, nat_tests) in
    both_true level (contains-is_subset nat_cmp_total set.empty m.categories (λ q there. absurd (false≢true (sym (contains-empty nat_cmp q) ∙ there))))

-- whether a get passes all tests with this current label
abbrev pub passes_at : State → ℕ → ℕ → Mode → Label → Bool
passes_at v s o x l =
    discretionary_holds v (s, o, x) && (simple_holds v (s, o, x) && (star_holds (with_current v s l) (s, o, x) && integrity_holds v (s, o, x)))

pub passes_granted : (v : State) (s o : ℕ) (x : Mode) (l : Label) → is_subject v s ≡ true → is_active v o ≡ true → passes_at v s o x l ≡ true
    → reply (with_current v s l) (get_request s o x) ≡ Yes
passes_granted v s o x l known active passes =
    let a = and_parts (discretionary_holds v (s, o, x)) (simple_holds v (s, o, x) && (star_holds (with_current v s l) (s, o, x) && integrity_holds v (s, o, x))) passes in
    let b = and_parts (simple_holds v (s, o, x)) (star_holds (with_current v s l) (s, o, x) && integrity_holds v (s, o, x)) a.1 in
    let c = and_parts (star_holds (with_current v s l) (s, o, x)) (integrity_holds v (s, o, x)) b.1 in
    gets_yes (with_current v s l) s o x (record { known = known; active = active; discretionary = a.0; simple = b.0; star = c.0; integrity = c.1 })

pub granted_passes : (v : State) (s o : ℕ) (x : Mode) (l : Label) → reply (with_current v s l) (get_request s o x) ≡ Yes → passes_at v s o x l ≡ true
granted_passes v s o x l granted =
    let gets = gets_from (with_current v s l) s o x granted in
    and_from (discretionary_holds v (s, o, x)) _ gets.discretionary
    (and_from (simple_holds v (s, o, x)) _ gets.simple (and_from (star_holds (with_current v s l) (s, o, x)) (integrity_holds v (s, o, x)) gets.star gets.integrity))

-- a label helps where both requests are granted
pub helps_of : (v : State) (s o : ℕ) (x : Mode) (l : Label) → reply v (level_request s l) ≡ Yes → reply (with_current v s l) (get_request s o x) ≡ Yes → Helps v s o x l
helps_of v s o x l granted gets = record { level = granted; get = ap (λ w. reply w (get_request s o x)) (after_level v s l granted) ∙ gets }

pub helps_get : (v : State) (s o : ℕ) (x : Mode) (l : Label) → Helps v s o x l → reply (with_current v s l) (get_request s o x) ≡ Yes
helps_get v s o x l helps = sym (ap (λ w. reply w (get_request s o x)) (after_level v s l helps.level)) ∙ helps.get

-- who is helped is known, and the object active
pub helps_known : (v : State) (s o : ℕ) (x : Mode) (l : Label) → Helps v s o x l → (is_subject v s && is_active v o) ≡ true
helps_known v s o x l helps = let gets = (helps_parts v s o x l helps).1 in and_from (is_subject v s) (is_active v o) gets.known gets.active

-- the lowest label and trusted subjects
pub trusted_least : (j : Label) → j ≡ lowest → (m : Label) → IsTrue (dominates m j)
trusted_least j is m = subst (λ l. IsTrue (dominates m l)) (sym is) (lowest_below m)

pub trusted_helps : (v : State) (s o : ℕ) (x : Mode) (j : Label) → j ≡ lowest → set.contains v.trusted s ≡ true → (m : Label) → Helps v s o x m → Helps v s o x j
trusted_helps v s o x j is trusted m helps =
    lower_helps v s o x m j (trusted_least j is m) (λ untrusted. absurd (false≢true (sym untrusted ∙ trusted))) (λ untrusted. absurd (false≢true (sym untrusted ∙ trusted))) helps

-- a label that covers what an untrusted subject observes and would
pub untrusted_helps : (v : State) (s o : ℕ) (x : Mode) (from j : Label)
    → (IsTrue (observes x) → map.get v.object_label o ≡ Some from)
    → (m : Label) → IsTrue (dominates m j) → IsTrue (dominates j from) → Covers v s j → Helps v s o x m → Helps v s o x j
untrusted_helps v s o x from j there m lower above covers helps =
    lower_helps v s o x m j lower (λ untrusted. covers) (λ untrusted looks. ap (is_above (Some j)) (there looks) ∙ above) helps
