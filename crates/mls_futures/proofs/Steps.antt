-- The steps of scripts: to give, to release, to lower a label, to change a level, to get.
use Rattle.std.proofs.Common.{◌≡◌, ℕ, Bool, true, false, not, ◌&&◌, ◌||◌, inr, List, [], ◌∷◌, Option, Some, None, is_some, nat_eq, nat_le, nat_lt, eqb, refl, sym, ap, subst, ◌∙◌, arith}
use Rattle.std.specs.List.{list_any, list_all}
use Rattle.std.specs.Cmp.{nat_cmp_total}
use Rattle.std.specs.Cmp.Derive.{both_true}
use Rattle.std.specs.Ordering.{nat_cmp}
use Rattle.std.specs.FinMap as map
use Rattle.std.specs.FinSet as set
use Rattle.std.specs.FinSet.{contains-is_subset, nat_cmp-IsAntisymmetric}
use Rattle.std.proofs.lemmas.Bool.{eq-eqb, and_from, and_parts, or_left, or_right}
use Rattle.std.proofs.lemmas.Bool.Decides.{nat_tests}
use Rattle.mls_facts.specs.Each.{each}
use Rattle.mls_facts.proofs.Each.{contains-each, each-from_list}
use Rattle.mls_facts.proofs.Entries.{by_number, at_new, elsewhere, has-replaced}
use Rattle.mls_labels.specs.Label.{Label, Bounds, has_label}
use Rattle.mls_tables.specs.Triples.{Triple, is_triple}
use Rattle.mls_tables.specs.declared.mode.Mode.{Mode}
use Rattle.mls_tables.proofs.Laws.{triples_total, same_triple, is_triple-itself, contains-insert-triple, contains-remove-triple}
use Rattle.mls_tree.specs.Tree as tree
use Rattle.mls_tree.specs.Tree.{Reaches, here, up, children}
use Rattle.mls_tree.proofs.Laws.{is_active-tree, list_any-children, parent_from_child}
use Rattle.mls_requests.specs.declared.action.Action.TheVariants.{Get, Release, Give, SubjectLevel, ObjectLevel}
use Rattle.mls_requests.specs.declared.request.Request.{Request}
use Rattle.mls_state.specs.State.{State, is_subject, is_active, is_above}
use Rattle.mls_state.specs.Properties.{IsSecure, simple_holds, star_holds, integrity_holds}
use Rattle.mls_state.specs.Changes.{with_current, with_object_label}
use Rattle.mls_rules.specs.Levels.{each_child, is_above_parent, label_fits}
use Rattle.mls_rules.specs.Rules.{controls}
use Rattle.mls_futures.specs.Closure.{HasTrusted}
use Rattle.mls_futures.specs.Futures.{HasLabelsWithin, HoldsNothing}
use Rattle.mls_futures.proofs.Scripts.{alike_triples, IsStep, step}

-- the label that every label dominates
abbrev pub least : Label
least = record { level = 0; categories = set.empty }

least_subset : (s : set.FinSet nat_cmp) → set.is_subset set.empty s ≡ true
least_subset s = contains-is_subset nat_cmp_total set.empty s (λ q there. let no : true ≡ false = sym there ∙ set.contains-empty nat_cmp q in cc)

pub above_least : (e : Option Label) → is_some e ≡ true → is_above e (Some least) ≡ true
above_least None there = cc
above_least (Some l) there = let level : nat_le 0 l.level ≡ true = grind (arith, nat_tests) in both_true level (least_subset l.categories)

-- it is within bounds that another label is within
least_within : (b : Bounds) (l : Label) → has_label b l ≡ true → has_label b least ≡ true
least_within b l within =
    let some : nat_lt l.level b.levels ≡ true = (and_parts (nat_lt l.level b.levels) (each l.categories (λ n. nat_lt n b.categories)) within).0 in
    let level : nat_lt 0 b.levels ≡ true = grind (arith, nat_tests, some) in
    both_true level (each-from_list nat_cmp_total nat_cmp-IsAntisymmetric (λ n. nat_lt n b.categories) [])

pub label_there : (e : Option Label) → is_some e ≡ true → (l : Label) × (e ≡ Some l)
label_there None there = cc
label_there (Some l) there = (l, refl)

pub has_least : (v : State) → IsSecure v → HasLabelsWithin v → has_label v.security least ≡ true
has_least v h within =
    let root = label_there (map.get v.object_label 0) h.tree.objects.root_active in
    least_within v.security root.0 (within 0 root.0 root.1)

-- where nobody holds anything, all that is held passes each test
pub none_fails : (v : State) (p : Triple → Bool) → HoldsNothing v → each v.accesses p ≡ true
none_fails v p nothing = contains-each triples_total same_triple v.accesses p (λ t there. let no : true ≡ false = sym there ∙ nothing t in cc)

-- just one access is held
abbrev pub HoldsOnly : Triple → State → Type 0
HoldsOnly t v = (u : Triple) → set.contains v.accesses u ≡ is_triple u t

neither : (b : Bool) → (not b && b) ≡ false
neither true = refl
neither false = refl

or_none : (b c : Bool) → c ≡ false → (b || c) ≡ b
or_none true c is = refl
or_none false c is = is

-- the requests of scripts
abbrev pub give : ℕ → ℕ → ℕ → Mode → Request
give giver s o x = record { subject = giver; action = Give x s o }

abbrev pub release : ℕ → ℕ → Mode → Request
release s o x = record { subject = s; action = Release x o }

abbrev pub level : ℕ → Label → Request
level s l = record { subject = s; action = SubjectLevel l }

abbrev pub get : ℕ → ℕ → Mode → Request
get s o x = record { subject = s; action = Get x o }

abbrev pub lower : ℕ → ℕ → Request
lower s o = record { subject = s; action = ObjectLevel o least }

module _ (acts : ℕ → Bool) (v : State) (h : IsSecure v) (within : HasLabelsWithin v) where
  -- a permission is given
  pub to_give : (giver s o : ℕ) (x : Mode) → acts giver ≡ true → is_subject v giver ≡ true → is_subject v s ≡ true → is_active v o ≡ true → controls v giver o ≡ true
      → IsStep acts v (give giver s o x) (λ w. (w.accesses ≡ v.accesses) × (set.contains w.matrix (s, o, x) ≡ true))
  to_give giver s o x actor known subject object has =
      step acts v (give giver s o x) (λ w. (w.accesses ≡ v.accesses) × (set.contains w.matrix (s, o, x) ≡ true)) h actor
      (and_from (is_subject v giver) (is_subject v s && is_active v o) known (and_from (is_subject v s) (is_active v o) subject object))
      (has, tt) refl
      (alike_triples acts v v.accesses (set.insert v.matrix (s, o, x)) v.current
      (λ t there. contains-insert-triple v.matrix (s, o, x) t ∙ or_right (is_triple t (s, o, x)) (set.contains v.matrix t) there))
      within
      (refl, contains-insert-triple v.matrix (s, o, x) (s, o, x) ∙ or_left (is_triple (s, o, x) (s, o, x)) (set.contains v.matrix (s, o, x)) (is_triple-itself (s, o, x)))

  -- all that is held is released
  pub to_release : (s o : ℕ) (x : Mode) → acts s ≡ true → is_subject v s ≡ true → is_active v o ≡ true → HoldsOnly (s, o, x) v → IsStep acts v (release s o x) HoldsNothing
  to_release s o x actor known object only =
      step acts v (release s o x) HoldsNothing h actor
      (and_from (is_subject v s) (is_active v o) known object) tt refl
      (alike_triples acts v (set.remove v.accesses (s, o, x)) v.matrix v.current (λ t there. there))
      within
      (λ u. contains-remove-triple v.accesses (s, o, x) u ∙ ap (λ c. not (is_triple u (s, o, x)) && c) (only u) ∙ neither (is_triple u (s, o, x)))

  -- a current label is changed
  pub to_level : (s : ℕ) (l : Label) → acts s ≡ true → is_subject v s ≡ true → has_label v.security l ≡ true → is_above (map.get v.maximum s) (Some l) ≡ true → HoldsNothing v
      → IsStep acts v (level s l) (λ w. HoldsNothing w × (map.get w.current s ≡ Some l) × (w.object_label ≡ v.object_label))
  to_level s l actor known fits under nothing =
      step acts v (level s l) (λ w. HoldsNothing w × (map.get w.current s ≡ Some l) × (w.object_label ≡ v.object_label)) h actor
      (and_from (is_subject v s) (has_label v.security l) known fits)
      (under, (none_fails v (λ t. not (nat_eq t.0 s) || star_holds (with_current v s l) t) nothing, tt)) refl
      (alike_triples acts v v.accesses v.matrix (map.insert v.current s l) (λ t there. there))
      within
      (nothing, at_new v.current s l, refl)

  -- an access is got
  pub to_get : (s o : ℕ) (x : Mode) → acts s ≡ true → is_subject v s ≡ true → is_active v o ≡ true → HoldsNothing v
      → set.contains v.matrix (s, o, x) ≡ true → simple_holds v (s, o, x) ≡ true → star_holds v (s, o, x) ≡ true → integrity_holds v (s, o, x) ≡ true
      → IsStep acts v (get s o x) (HoldsOnly (s, o, x))
  to_get s o x actor known object nothing has simple star integrity =
      step acts v (get s o x) (HoldsOnly (s, o, x)) h actor
      (and_from (is_subject v s) (is_active v o) known object)
      (has, (simple, (star, (integrity, tt)))) refl
      (alike_triples acts v (set.insert v.accesses (s, o, x)) v.matrix v.current (λ t there. there))
      within
      (λ u. contains-insert-triple v.accesses (s, o, x) u ∙ or_none (is_triple u (s, o, x)) (set.contains v.accesses u) (nothing u))

  -- a label is lowered, as far as it goes
  all_children : (o : ℕ) (p : ℕ → Bool) → ((c : ℕ) → map.get v.parent c ≡ Some o → p c ≡ true) → each_child v o p ≡ true
  all_children o p known = all (children v.parent o) (λ c there. known c (parent_from_child v.parent c o (sym (list_any-children v.parent by_parents c o) ∙ there))) where
    by_parents : tree.IsTree v.parent (tree.is_active v.parent)
    by_parents = subst (tree.IsTree v.parent) (λ i q. is_active-tree v.parent (is_active v) h.tree.objects q i) h.tree.objects

    all : (cs : List ℕ) → ((c : ℕ) → list_any (eqb c) cs ≡ true → p c ≡ true) → list_all p cs ≡ true
    all [] known = refl
    all (c ∷ cs) known =
        and_from (p c) (list_all p cs) (known c (or_left (eqb c c) (list_any (eqb c) cs) (eq-eqb c c refl)))
        (all cs (λ q later. known q (or_right (eqb q c) (list_any (eqb q) cs) later)))

  least_fits : (o : ℕ) → is_above_parent v least (map.get v.parent o) ≡ true → label_fits v o least ≡ true
  least_fits o above =
      and_from (is_above_parent v least (map.get v.parent o)) (each_child v o (λ c. is_above (map.get v.object_label c) (Some least))) above
      (all_children o (λ c. is_above (map.get v.object_label c) (Some least))
      (λ c step. above_least (map.get v.object_label c) ((h.tree.objects.children_active c o step).0)))

  pub to_lower : (t : HasTrusted v acts) (o : ℕ) → is_subject v t.subject ≡ true → is_active v o ≡ true → HoldsNothing v → is_above_parent v least (map.get v.parent o) ≡ true
      → IsStep acts v (lower t.subject o) (λ w. HoldsNothing w × (map.get w.object_label o ≡ Some least))
  to_lower t o known object nothing above =
      step acts v (lower t.subject o) (λ w. HoldsNothing w × (map.get w.object_label o ≡ Some least)) h t.actor
      (and_from (is_subject v t.subject) (is_active v o && has_label v.security least) known (and_from (is_active v o) (has_label v.security least) object (has_least v h within))) (
        or_left (set.contains v.trusted t.subject) _ t.trusted,
        (
          least_fits o above,
          (
            none_fails v (λ u. not (nat_eq u.1 o) || simple_holds (with_object_label v o least) u) nothing,
            (none_fails v (λ u. not (nat_eq u.1 o) || star_holds (with_object_label v o least) u) nothing, tt),
          ),
        ),
      )
      refl
      (record {
        maximum = refl;
        subject_integrity = refl;
        trusted = refl;
        integrity = refl;
        parent = refl;
        security = refl;
        active = λ q. has-replaced v.object_label o least q object;
        label = λ q. inr t;
        matrix = λ u there. there;
      })
      (λ q l at. by_number o q (λ k. map.get (map.insert v.object_label o least) k ≡ Some l → has_label v.security l ≡ true)
      (λ is. ap (has_label v.security) (sym (same_some least l (sym (at_new v.object_label o least) ∙ is))) ∙ has_least v h within)
      (λ other is. within q l (sym (elsewhere v.object_label o least q other) ∙ is)) at)
      (nothing, at_new v.object_label o least) where
        same_some : (a b : Label) → Some a ≡ Some b → a ≡ b
        same_some a b is = cc
