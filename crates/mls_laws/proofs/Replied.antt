-- Requests to the start of the examples that are granted, denied and undefined.
use Rattle.std.proofs.Common.{◌≡◌, ℕ, zero, suc, ◌+◌, ◌<◌, Bool, true, false, ◌&&◌, ◌||◌, nat_lt, nat_eq, List, [], ◌∷◌, Some, is_some, refl, ap, ◌∙◌, if◌then◌else◌, arith}
use Rattle.std.proofs.lemmas.Bool.{and_from, or_right}
use Rattle.std.proofs.lemmas.Bool.Decides.{nat_tests}
use Rattle.std.specs.FinSet as set
use Rattle.std.specs.FinMap as map
use Rattle.mls_facts.proofs.Entries.{elsewhere}
use Rattle.mls_labels.specs.Label.{has_label}
use Rattle.mls_tables.specs.declared.limits.TheConstants.{MAX_OBJECTS}
use Rattle.mls_tables.specs.declared.mode.Mode.TheVariants.{Execute, Read, Append, Write}
use Rattle.mls_tables.specs.Triples.{Triple, TripleSet, is_triple}
use Rattle.mls_tables.proofs.Laws.{contains-insert-triple, is_triple-itself}
use Rattle.mls_requests.specs.declared.action.Action.TheVariants.{Get, Release, Create, Delete, SubjectLevel}
use Rattle.mls_requests.specs.declared.request.Request.{Request}
use Rattle.mls_requests.specs.declared.reason.Reason.{Reason}
use Rattle.mls_requests.specs.declared.reason.Reason.TheVariants.{Discretionary, Simple, Star, Integrity, Authority, Compatibility, Ceiling, Root, Full}
use Rattle.mls_requests.specs.declared.reply.Reply.{Reply}
use Rattle.mls_requests.specs.declared.reply.Reply.TheVariants.{Yes, Created, No, Undefined}
use Rattle.mls_state.specs.State.{State, is_subject, is_active, is_above}
use Rattle.mls_state.specs.Properties.{IsSecure}
use Rattle.mls_rules.specs.Rules.{writes_parent, conditions, AllHold, first_failing, granted, reply_unless, verdict, is_defined, reply, change, after}
use Rattle.mls_rules.proofs.Laws.{after_secure}
use Rattle.mls_laws.specs.Journals.{run, is_grant}
use Rattle.mls_laws.specs.Examples.{plain, ann_reads_plans, ann_releases_plans, bob_writes_plans}
use Rattle.mls_laws.proofs.Answered.{grants, after_grant}
use Rattle.mls_laws.proofs.Plain.{plain_above, plain_within}
use Rattle.mls_laws.proofs.ExampleStart.{start, maximum_at, current_at, own_integrity_at, label_at, integrity_at, parent_at, trusted_at, permitted_at, accessed_at, next_at, security_is, integrity_is, subject_at, known, start_secure, profile_is}
use Rattle.mls_laws.proofs.Kept.{next_one}
use Rattle.mls_tree.specs.declared.profile.Profile.TheVariants.{One}

-- the conditions hold up to a place, and the one there fails
abbrev FailsAt : List (Reason × Bool) → ℕ → Type 0
FailsAt [] n = ⊥
FailsAt ((reason, holds) ∷ rest) zero = holds ≡ false
FailsAt ((reason, holds) ∷ rest) (suc n) = (holds ≡ true) × FailsAt rest n

abbrev reason_at : List (Reason × Bool) → ℕ → Reason
reason_at [] n = Full
reason_at ((reason, holds) ∷ rest) zero = reason
reason_at ((reason, holds) ∷ rest) (suc n) = reason_at rest n

fails_first : (cs : List (Reason × Bool)) (n : ℕ) → FailsAt cs n → first_failing cs ≡ Some (reason_at cs n)
fails_first [] n fails = absurd fails
fails_first ((reason, true) ∷ rest) zero fails = let wrong : true ≡ false = fails in cc
fails_first ((reason, false) ∷ rest) zero fails = refl
fails_first ((reason, true) ∷ rest) (suc n) fails = fails_first rest n fails.1
fails_first ((reason, false) ∷ rest) (suc n) fails = let wrong : false ≡ true = fails.0 in cc

-- a request in the domain is denied for the condition that fails first
denied : (v : State) (r : Request) (n : ℕ) → is_defined v r ≡ true → FailsAt (conditions v r.subject r.action) n
    → reply v r ≡ No (reason_at (conditions v r.subject r.action) n)
denied v r n defined fails = (λ i. if defined i then reply_unless (fails_first (conditions v r.subject r.action) n fails i) (granted v r.action) else Undefined)

undefined : (v : State) (r : Request) → is_defined v r ≡ false → reply v r ≡ Undefined
undefined v r out = ap (λ b. if b then verdict v r.subject r.action else Undefined) out

-- a request that is granted changes the state so
pub changes : (v : State) (r : Request) → is_defined v r ≡ true → AllHold (conditions v r.subject r.action) → is_grant (granted v r.action) ≡ true
    → after v r ≡ change v r.subject r.action
changes v r defined all grant = after_grant v r (ap is_grant (grants v r defined all) ∙ grant)

pub in_it : (b : TripleSet) (t : Triple) → set.contains (set.insert b t) t ≡ true
in_it b t = contains-insert-triple b t t ∙ ap (λ c. c || set.contains b t) (is_triple-itself t)

pub in_still : (b : TripleSet) (t u : Triple) → set.contains b u ≡ true → set.contains (set.insert b t) u ≡ true
in_still b t u there = contains-insert-triple b t u ∙ or_right (is_triple u t) (set.contains b u) there

-- ann reads plans
reads_passes : AllHold (conditions start 0 (Get Read 1))
reads_passes = (
  permitted_at (0, 1, Read),
  (
    (λ i. is_above (maximum_at 0 i) (label_at 1 i)) ∙ plain_above 2 2,
    (
      or_right (set.contains start.trusted 0) _ ((λ i. is_above (current_at 0 i) (label_at 1 i)) ∙ plain_above 2 2),
      (and_from _ true ((λ i. is_above (integrity_at 1 i) (own_integrity_at 0 i)) ∙ plain_above 1 1) refl, tt),
    ),
  ),
)

pub reads_granted : reply start ann_reads_plans ≡ Yes
reads_granted = grants start ann_reads_plans (known 0 1 refl) reads_passes

pub reads_secure : IsSecure (after start ann_reads_plans)
reads_secure = after_secure start ann_reads_plans start_secure

abbrev pub reading : State
reading = change start 0 (Get Read 1)

pub reading_is : after start ann_reads_plans ≡ reading
reading_is = changes start ann_reads_plans (known 0 1 refl) reads_passes refl

pub reads_held : set.contains (after start ann_reads_plans).accesses (0, 1, Read) ≡ true
reads_held = ap (λ (v : State). set.contains v.accesses (0, 1, Read)) reading_is ∙ in_it start.accesses (0, 1, Read)

-- and releases it
pub releases_granted : reply (after start ann_reads_plans) ann_releases_plans ≡ Yes
releases_granted = ap (λ v. reply v ann_releases_plans) reading_is ∙ grants reading ann_releases_plans (known 0 1 refl) tt

-- ann writes plans, and makes objects below it
abbrev pub writes_plans : Request
writes_plans = record { subject = 0; action = Get Write 1 }

writes_passes : AllHold (conditions start 0 (Get Write 1))
writes_passes = (
  permitted_at (0, 1, Write),
  (
    (λ i. is_above (maximum_at 0 i) (label_at 1 i)) ∙ plain_above 2 2,
    (
      or_right (set.contains start.trusted 0) _
          (and_from _ _ ((λ i. is_above (label_at 1 i) (current_at 0 i)) ∙ plain_above 2 2) ((λ i. is_above (current_at 0 i) (label_at 1 i)) ∙ plain_above 2 2)),
      (
        and_from _ _ ((λ i. is_above (integrity_at 1 i) (own_integrity_at 0 i)) ∙ plain_above 1 1) ((λ i. is_above (own_integrity_at 0 i) (integrity_at 1 i)) ∙ plain_above 1 1),
        tt,
      ),
    ),
  ),
)

abbrev writing : State
writing = change start 0 (Get Write 1)

writing_is : after start writes_plans ≡ writing
writing_is = changes start writes_plans (known 0 1 refl) writes_passes refl

-- a state in which ann writes plans
record Ready (v : State) : Type 0 where
  subject : is_subject v 0 ≡ true
  plans : map.get v.object_label 1 ≡ Some (plain 2)
  plans_integrity : map.get v.object_integrity 1 ≡ Some (plain 1)
  written : set.contains v.accesses (0, 1, Write) ≡ true
  security : v.security ≡ record { levels = 4; categories = 0 }
  integrity : v.integrity ≡ record { levels = 2; categories = 0 }
  profile : v.profile ≡ One
  some : 1 < v.next

writing_ready : Ready writing
writing_ready = record {
  subject = subject_at 0;
  plans = label_at 1;
  plans_integrity = integrity_at 1;
  written = in_it start.accesses (0, 1, Write);
  security = security_is;
  integrity = integrity_is;
  profile = profile_is;
  some = let next : start.next ≡ 4 = next_at in omega (arith, next);
}

abbrev makes : ℕ → Request
makes n = record { subject = 0; action = Create 1 (plain n) (plain 0) }

makes_defined : (v : State) (n : ℕ) → Ready v → nat_lt n 4 ≡ true → is_defined v (makes n) ≡ true
makes_defined v n h low =
    and_from _ _ h.subject (and_from _ _ (ap is_some h.plans) (and_from _ _
    (ap (λ b. has_label b (plain n)) h.security ∙ plain_within (record { levels = 4; categories = 0 }) n ∙ low)
    (ap (λ b. has_label b (plain 0)) h.integrity ∙ plain_within (record { levels = 2; categories = 0 }) 0)))

authorized : (v : State) → Ready v → (set.contains v.accesses (0, 1, Append) || set.contains v.accesses (0, 1, Write)) ≡ true
authorized v h = or_right (set.contains v.accesses (0, 1, Append)) (set.contains v.accesses (0, 1, Write)) h.written

fits : (v : State) → Ready v → is_above (Some (plain 2)) (map.get v.object_label 1) ≡ true
fits v h = ap (λ e. is_above (Some (plain 2)) e) h.plans ∙ plain_above 2 2

fits_integrity : (v : State) → Ready v → is_above (map.get v.object_integrity 1) (Some (plain 0)) ≡ true
fits_integrity v h = ap (λ e. is_above e (Some (plain 0))) h.plans_integrity ∙ plain_above 1 0

makes_passes : (v : State) → Ready v → nat_lt v.next MAX_OBJECTS ≡ true → AllHold (conditions v 0 (Create 1 (plain 2) (plain 0)))
makes_passes v h room = (authorized v h, (fits v h, (fits_integrity v h, (room, tt))))

-- Some requests lead from a state to a reply, or to a denial for a reason.
abbrev pub Leads : State → Reply → Type 0
Leads v answer = (requests : List Request) × (r : Request) × (reply (run v requests) r ≡ answer)

pub says_yes : Leads start Yes
says_yes = ([], ann_reads_plans, reads_granted)

pub says_created : Leads start (Created 4)
says_created = (
  writes_plans ∷ [],
  makes 2,
  ap (λ v. reply v (makes 2)) writing_is
      ∙ grants writing (makes 2) (makes_defined writing 2 writing_ready refl) (makes_passes writing writing_ready (ap (λ n. nat_lt n MAX_OBJECTS) next_at))
      ∙ ap Created next_at,
)

pub says_undefined : Leads start Undefined
says_undefined = ([], record { subject = 9; action = Release Read 0 }, undefined start (record { subject = 9; action = Release Read 0 }) (ap (λ b. b && is_active start 0) (subject_at 9)))

pub bob_denied : reply start bob_writes_plans ≡ No Discretionary
bob_denied = denied start bob_writes_plans 0 (known 1 1 refl) (permitted_at (1, 1, Write))

abbrev bob_reads : ℕ → Request
bob_reads o = record { subject = 1; action = Get Read o }

simple : Leads start (No Simple)
simple = ([], bob_reads 1, denied start (bob_reads 1) 1 (known 1 1 refl) (permitted_at (1, 1, Read), (λ i. is_above (maximum_at 1 i) (label_at 1 i)) ∙ plain_above 1 2))

star : Leads start (No Star)
star = (
  [],
  bob_reads 2,
  denied start (bob_reads 2) 2 (known 1 2 refl) (
    permitted_at (1, 2, Read),
    (
      (λ i. is_above (maximum_at 1 i) (label_at 2 i)) ∙ plain_above 1 1,
      (λ i. trusted_at 1 i || is_above (current_at 1 i) (label_at 2 i)) ∙ plain_above 0 1,
    ),
  ),
)

abbrev ann_executes : Request
ann_executes = record { subject = 0; action = Get Execute 3 }

integrity : Leads start (No Integrity)
integrity = (
  [],
  ann_executes,
  denied start ann_executes 3 (known 0 3 refl) (
    permitted_at (0, 3, Execute),
    (
      refl,
      (
        or_right (set.contains start.trusted 0) true refl,
        (λ i. is_above (integrity_at 3 i) (own_integrity_at 0 i) && true) ∙ ap (λ b. b && true) (plain_above 0 1),
      ),
    ),
  ),
)

abbrev ann_deletes : ℕ → Request
ann_deletes o = record { subject = 0; action = Delete o }

authority : Leads start (No Authority)
authority = ([], ann_deletes 1, denied start (ann_deletes 1) 1 (known 0 1 refl) (refl, ap (λ e. writes_parent start 0 e) (parent_at 1) ∙ accessed_at (0, 0, Write)))

root : Leads start (No Root)
root = ([], ann_deletes 0, denied start (ann_deletes 0) 0 (known 0 0 refl) refl)

abbrev bob_rises : Request
bob_rises = record { subject = 1; action = SubjectLevel (plain 3) }

ceiling : Leads start (No Ceiling)
ceiling = (
  [],
  bob_rises,
  denied start bob_rises 0
      (and_from _ _ (subject_at 1) (ap (λ b. has_label b (plain 3)) security_is ∙ plain_within (record { levels = 4; categories = 0 }) 3))
      ((λ i. is_above (maximum_at 1 i) (Some (plain 3))) ∙ plain_above 1 3),
)

compatibility : Leads start (No Compatibility)
compatibility = (
  writes_plans ∷ [],
  makes 0,
  ap (λ v. reply v (makes 0)) writing_is
      ∙ denied writing (makes 0) 1 (makes_defined writing 0 writing_ready refl)
      (authorized writing writing_ready, ap (λ e. is_above (Some (plain 0)) e) (label_at 1) ∙ plain_above 0 2),
)

-- ann makes objects below plans until no number is left
made_next : (v : State) → Ready v → (change v 0 (Create 1 (plain 2) (plain 0))).next ≡ v.next + 1
made_next v h = next_one v.profile (v.next + 1) _ h.profile

ready_still : (v : State) → Ready v → Ready (change v 0 (Create 1 (plain 2) (plain 0)))
ready_still v h =
    let some : 1 < v.next = h.some in
    let other : nat_eq 1 v.next ≡ false = grind (arith, nat_tests) in
    record {
      subject = h.subject;
      plans = elsewhere v.object_label v.next (plain 2) 1 other ∙ h.plans;
      plans_integrity = elsewhere v.object_integrity v.next (plain 0) 1 other ∙ h.plans_integrity;
      written = h.written;
      security = h.security;
      integrity = h.integrity;
      profile = h.profile;
      some = let next : (change v 0 (Create 1 (plain 2) (plain 0))).next ≡ v.next + 1 = made_next v h in omega (arith, some, next);
    }

made : (v : State) → Ready v → v.next < MAX_OBJECTS → after v (makes 2) ≡ change v 0 (Create 1 (plain 2) (plain 0))
made v h room =
    let fewer : nat_lt v.next MAX_OBJECTS ≡ true = grind (arith, nat_tests) in
    changes v (makes 2) (makes_defined v 2 h refl) (makes_passes v h fewer) refl

full_after : (n : ℕ) (v : State) → Ready v → v.next + n ≡ MAX_OBJECTS → Leads v (No Full)
full_after zero v h all =
    let none : nat_lt v.next MAX_OBJECTS ≡ false = grind (arith, nat_tests) in
    ([], makes 2, denied v (makes 2) 3 (makes_defined v 2 h refl) (authorized v h, (fits v h, (fits_integrity v h, none))))
full_after (suc n) v h all =
    let room : v.next < MAX_OBJECTS = omega arith in
    let next : (change v 0 (Create 1 (plain 2) (plain 0))).next ≡ v.next + 1 = made_next v h in
    let left : (change v 0 (Create 1 (plain 2) (plain 0))).next + n ≡ MAX_OBJECTS = omega (arith, all, next) in
    let later = full_after n (change v 0 (Create 1 (plain 2) (plain 0))) (ready_still v h) left in
    (makes 2 ∷ later.0, later.1, ap (λ w. reply (run w later.0) later.1) (made v h room) ∙ later.2)

full : Leads start (No Full)
full =
    let next : start.next ≡ 4 = next_at in
    let later = full_after 4092 writing writing_ready (ap (λ n. n + 4092) next) in
    (writes_plans ∷ later.0, later.1, ap (λ w. reply (run w later.0) later.1) writing_is ∙ later.2)

pub says_no : (reason : Reason) → Leads start (No reason)
says_no Discretionary = ([], bob_writes_plans, bob_denied)
says_no Simple = simple
says_no Star = star
says_no Integrity = integrity
says_no Authority = authority
says_no Compatibility = compatibility
says_no Ceiling = ceiling
says_no Root = root
says_no Full = full
