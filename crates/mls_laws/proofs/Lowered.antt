-- System Z keeps states secure, and is not the monitor.
use Rattle.std.proofs.Common.{◌≡◌, ℕ, Bool, true, false, not, ◌&&◌, ◌||◌, cond, List, [], ◌∷◌, take, Some, None, is_some, refl, sym, ap, subst, ◌∙◌, if◌then◌else◌}
use Rattle.std.specs.Prelude.{slice_get}
use Rattle.std.specs.Prelude as prelude
use Rattle.std.proofs.lemmas.Bool.{and_parts, and_from, or_right}
use Rattle.std.specs.List.{list_any}
use Rattle.std.specs.Ordering.{nat_cmp, eq_by_cmp}
use Rattle.std.specs.Cmp.{nat_cmp_total}
use Rattle.std.specs.FinSet as set
use Rattle.std.specs.FinMap as map
use Rattle.std.specs.FinMap.{FinMap}
use Rattle.mls_labels.specs.Label.{Label}
use Rattle.mls_labels.proofs.Laws.{reflexive}
use Rattle.mls_tables.specs.Mode.{observes, alters, uses}
use Rattle.mls_tables.specs.Triples.{Triple}
use Rattle.mls_tables.specs.declared.mode.Mode.{Mode}
use Rattle.mls_tables.specs.declared.mode.Mode.TheVariants.{Execute, Read, Append, Write}
use Rattle.mls_tables.proofs.Laws.{contains-insert-triple, is_triple-itself}
use Rattle.mls_tree.specs.Tree.{IsTree, HasNext}
use Rattle.mls_requests.specs.declared.action.Action.{Action}
use Rattle.mls_requests.specs.declared.action.Action.TheVariants.{Get, Release, Give, Rescind, Create, Delete, SubjectLevel, ObjectLevel}
use Rattle.mls_requests.specs.declared.request.Request.{Request}
use Rattle.mls_requests.specs.declared.reason.Reason.{Reason}
use Rattle.mls_requests.specs.declared.reply.Reply.TheVariants.{Yes, No, Undefined}
use Rattle.mls_requests.specs.declared.entry.Entry.{Entry}
use Rattle.mls_state.specs.State.{State, is_subject, is_active, is_above}
use Rattle.mls_state.specs.Properties.{IsSecure, HasTree, is_known, star_between}
use Rattle.mls_state.proofs.Laws.{Each-insert, within-insert}
use Rattle.mls_rules.specs.Rules.{reply}
use Rattle.mls_rules.proofs.Laws.{after_secure}
use Rattle.mls_monitor.specs.Journal.{fold, IsLegal}
use Rattle.mls_laws.specs.SystemZ.{bottom, bottoms, with_labels_lowered, with_access, z_answer, z_change, z_after, z_run, ShowsSystemZ}
use Rattle.mls_laws.proofs.Kept.{Fixed, fold_fixed}

either_key : (b c : Bool) → cond b (Some bottom) (cond c (Some bottom) None) ≡ cond (b || c) (Some bottom) None
either_key true c = refl
either_key false c = refl

get-bottoms : (ks : List ℕ) (q : ℕ) → map.get (bottoms ks) q ≡ cond (list_any (eq_by_cmp nat_cmp q) ks) (Some bottom) None
get-bottoms [] q = map.get-empty nat_cmp q
get-bottoms (k ∷ ks) q =
    map.get-insert nat_cmp_total (bottoms ks) k bottom q
    ∙ ap (λ e. cond (eq_by_cmp nat_cmp q k) (Some bottom) e) (get-bottoms ks q)
    ∙ either_key (eq_by_cmp nat_cmp q k) (list_any (eq_by_cmp nat_cmp q) ks)

get-lowered : (m : FinMap nat_cmp Label) (q : ℕ) → map.get (bottoms (map.keys m)) q ≡ cond (map.contains_key m q) (Some bottom) None
get-lowered m q = get-bottoms (map.keys m) q ∙ ap (λ b. cond b (Some bottom) None) (sym (map.contains_key-keys m q))

at_lowered : (m : FinMap nat_cmp Label) (q : ℕ) → map.contains_key m q ≡ true → map.get (bottoms (map.keys m)) q ≡ Some bottom
at_lowered m q there = get-lowered m q ∙ ap (λ b. cond b (Some bottom) None) there

is_some-cond : (b : Bool) → is_some (cond b (Some bottom) None) ≡ b
is_some-cond true = refl
is_some-cond false = refl

has-lowered : (m : FinMap nat_cmp Label) (q : ℕ) → map.contains_key (bottoms (map.keys m)) q ≡ map.contains_key m q
has-lowered m q = ap is_some (get-lowered m q) ∙ is_some-cond (map.contains_key m q)

some_bottom : (b : Bool) (l : Label) → cond b (Some bottom) None ≡ Some l → l ≡ bottom
some_bottom true l is = cc
some_bottom false l is = cc

-- every label of a lowered table is the bottom
pub all_lowered : (m : FinMap nat_cmp Label) (q : ℕ) (l : Label) → map.get (bottoms (map.keys m)) q ≡ Some l → l ≡ bottom
all_lowered m q l is = some_bottom (map.contains_key m q) l (sym (get-lowered m q) ∙ is)

level : is_above (Some bottom) (Some bottom) ≡ true
level = reflexive bottom

star_level : (x : Mode) → star_between (Some bottom) (Some bottom) x ≡ true
star_level Execute = refl
star_level Read = level
star_level Append = level
star_level Write = and_from _ _ level level

abbrev lower : State → Triple → State
lower v t = with_access (with_labels_lowered v) t

module _ (v : State) (t : Triple) where
  known_still : (u : Triple) → is_known v u ≡ true → is_known (lower v t) u ≡ true
  known_still u known = (λ i. has-lowered v.maximum u.0 i && has-lowered v.object_label u.1 i) ∙ known

  tree_still : HasTree v → is_known v t ≡ true → HasTree (lower v t)
  tree_still h known = record {
    objects = subst (IsTree v.parent) (sym (λ i o. has-lowered v.object_label o i)) h.objects;
    next = subst (λ a. HasNext v.profile a v.next) (sym (λ i o. has-lowered v.object_label o i)) h.next;
    accesses_known = λ u there. known_still u (Each-insert v.accesses t (is_known v) h.accesses_known known u there);
    matrix_known = λ u there. known_still u (Each-insert v.matrix t (is_known v) h.matrix_known known u there);
  }

  lower_secure : IsSecure v → is_known v t ≡ true → IsSecure (lower v t)
  lower_secure h known = record {
    simple = λ u there. or_right (not (observes u.2)) _ ((λ i. is_above (at_lowered v.maximum u.0 (subject u there) i) (at_lowered v.object_label u.1 (object u there) i)) ∙ level);
    star = λ u there. or_right (set.contains v.trusted u.0) _
        ((λ i. star_between (at_lowered v.maximum u.0 (subject u there) i) (at_lowered v.object_label u.1 (object u there) i) u.2) ∙ star_level u.2);
    discretionary = permitted;
    compatible = λ c p step.
        let ends = h.tree.objects.children_active c p step in
        and_from _ _
        ((λ i. is_above (at_lowered v.object_label c ends.0 i) (at_lowered v.object_label p ends.1 i)) ∙ level)
        ((λ i. is_above (at_lowered v.object_label p ends.1 i) (at_lowered v.object_label c ends.0 i)) ∙ level);
    tree = tree_still h.tree known;
    integrity = λ u there. and_from _ _
        (or_right (not (uses u.2)) _ ((λ i. is_above (at_lowered v.object_label u.1 (object u there) i) (at_lowered v.maximum u.0 (subject u there) i)) ∙ level))
        (or_right (not (alters u.2)) _ ((λ i. is_above (at_lowered v.maximum u.0 (subject u there) i) (at_lowered v.object_label u.1 (object u there) i)) ∙ level));
    ceiling = λ s there.
        let was : is_subject v s ≡ true = sym (has-lowered v.maximum s) ∙ there in
        (λ i. is_above (at_lowered v.maximum s was i) (at_lowered v.maximum s was i)) ∙ level;
  } where
    was_known : (u : Triple) → set.contains (set.insert v.accesses t) u ≡ true → is_known v u ≡ true
    was_known u there = Each-insert v.accesses t (is_known v) h.tree.accesses_known known u there

    subject : (u : Triple) → set.contains (set.insert v.accesses t) u ≡ true → is_subject v u.0 ≡ true
    subject u there = (and_parts (is_subject v u.0) (is_active v u.1) (was_known u there)).0

    object : (u : Triple) → set.contains (set.insert v.accesses t) u ≡ true → is_active v u.1 ≡ true
    object u there = (and_parts (is_subject v u.0) (is_active v u.1) (was_known u there)).1

    permitted : (u : Triple) → set.contains (set.insert v.accesses t) u ≡ true → set.contains (set.insert v.matrix t) u ≡ true
    permitted u there =
        Each-insert v.accesses t (set.contains (set.insert v.matrix t)) (within-insert v.accesses v.matrix t h.discretionary)
        (contains-insert-triple v.matrix t t ∙ ap (λ b. b || set.contains v.matrix t) (is_triple-itself t)) u there

-- what is asked for is granted, and held after it
when : {X : Type 0} (b : Bool) (x y : X) → b ≡ true → (if b then x else y) ≡ x
when true x y is = refl
when false x y is = cc

module _ (v : State) (s o : ℕ) (x : Mode) where
  pub get_answer : is_known v (s, o, x) ≡ true → z_answer v s (Get x o) ≡ Yes
  get_answer known = when (is_subject v s && is_active v o) Yes Undefined known

  pub get_change : is_known v (s, o, x) ≡ true → z_change v s (Get x o) ≡ lower v (s, o, x)
  get_change known = when (is_subject v s && is_active v o) (lower v (s, o, x)) v known

  pub get_held : is_known v (s, o, x) ≡ true → set.contains (z_change v s (Get x o)).accesses (s, o, x) ≡ true
  get_held known =
      ap (λ (w : State). set.contains w.accesses (s, o, x)) (get_change known)
      ∙ contains-insert-triple v.accesses (s, o, x) (s, o, x) ∙ ap (λ b. b || set.contains v.accesses (s, o, x)) (is_triple-itself (s, o, x))

  get_secure : (b : Bool) → (is_subject v s && is_active v o) ≡ b → IsSecure v → IsSecure (if b then lower v (s, o, x) else v)
  get_secure true known h = lower_secure v (s, o, x) h known
  get_secure false unknown h = h

  -- to an access System Z never says no
  pub never_no : (b : Bool) (reason : Reason) → (if b then Yes else Undefined) ≡ No reason → ⊥
  never_no true reason is = cc
  never_no false reason is = cc

change_secure : (v : State) (s : ℕ) (a : Action) → IsSecure v → IsSecure (z_change v s a)
change_secure v s (Get x o) h = get_secure v s o x (is_subject v s && is_active v o) refl h
change_secure v s (Release x o) h = after_secure v (record { subject = s; action = Release x o }) h
change_secure v s (Give x t o) h = after_secure v (record { subject = s; action = Give x t o }) h
change_secure v s (Rescind x t o) h = after_secure v (record { subject = s; action = Rescind x t o }) h
change_secure v s (Create p l i) h = after_secure v (record { subject = s; action = Create p l i }) h
change_secure v s (Delete o) h = after_secure v (record { subject = s; action = Delete o }) h
change_secure v s (SubjectLevel l) h = after_secure v (record { subject = s; action = SubjectLevel l }) h
change_secure v s (ObjectLevel o l) h = after_secure v (record { subject = s; action = ObjectLevel o l }) h

pub run_secure : (v : State) (requests : List Request) → IsSecure v → IsSecure (z_run v requests)
run_secure v [] h = h
run_secure v (r ∷ requests) h = run_secure (z_after v r) requests (change_secure v r.subject r.action h)

answer_not_no : (v : State) (s : ℕ) (a : Action) (x : Mode) (o : ℕ) (reason : Reason) → a ≡ Get x o → z_answer v s a ≡ No reason → ⊥
answer_not_no v s a x o reason is answer =
    never_no v s o x (is_subject v s && is_active v o) reason (sym (ap (z_answer v s) is) ∙ answer)

abbrev map_requests : List Entry → List Request
map_requests entries = prelude.map (λ (f : Entry). f.request) entries

-- a legal journal in which an access is asked for that the rules deny doesn't show System Z's replies
pub not_shown : (v : State) (entries : List Entry) (n : ℕ) (e : Entry) (x : Mode) (o : ℕ) (reason : Reason) → IsLegal v entries → slice_get entries n ≡ Some e
    → e.request.action ≡ Get x o → reply (fold v (take n entries)) e.request ≡ No reason → ShowsSystemZ v entries → ⊥
not_shown v entries n e x o reason legal at action denied shows =
    answer_not_no (z_run v (map_requests (take n entries))) e.request.subject e.request.action x o reason action (sym (shows n e at) ∙ (legal n e at).reply ∙ denied)

same_label : (a b : Label) → Some a ≡ Some b → a ≡ b
same_label a b e = cc

-- no journal leads where System Z goes at once
pub never_there : (v : State) (s o t : ℕ) (x : Mode) (l : Label) → is_known v (s, o, x) ≡ true → map.get v.maximum t ≡ Some l → (l ≡ bottom → ⊥)
    → (entries : List Entry) → fold v entries ≡ z_change v s (Get x o) → ⊥
never_there v s o t x l known at other entries same =
    let kept : v.maximum ≡ bottoms (map.keys v.maximum) =
    sym (ap (λ (f : Fixed). f.0) (fold_fixed v entries)) ∙ ap (λ (u : State). u.maximum) same ∙ ap (λ (u : State). u.maximum) (get_change v s o x known) in
    other (same_label l bottom (sym at ∙ ap (λ m. map.get m t) kept ∙ at_lowered v.maximum t (ap is_some at)))
