-- The state that rows say: how it comes about, one object and one triple after the other.
use Rattle.std.proofs.Common.{◌≡◌, All, nat_lt, ℕ, zero, suc, ◌⊎◌, inl, inr, ◌+◌, ◌<◌, ◌≤◌, Bool, true, false, ◌||◌, List, [], ◌∷◌, length, get_or, drop, Option, Some, None, is_some, IsTrue, refl, sym, ap, subst, ◌∙◌, arith, nat_eq}
use Rattle.std.specs.Prelude.{max}
use Rattle.std.proofs.lemmas.Bool.Decides.{nat_tests}
use Rattle.std.proofs.lemmas.Bool.{or_left, or_right, or_cases, and_parts, cases_lt}
use Rattle.std.proofs.lemmas.List.{drop_more}
use Rattle.std.proofs.lemmas.Option.{same_Some}
use Rattle.std.specs.Cmp.{nat_cmp_total}
use Rattle.std.specs.Ordering.{nat_cmp}
use Rattle.std.specs.FinMap as map
use Rattle.std.specs.FinMap.{FinMap, same_map, nat_cmp-IsAntisymmetric}
use Rattle.std.specs.FinSet as set
use Rattle.mls_facts.specs.Least.{least_failing}
use Rattle.mls_facts.specs.Numbered.{holds_of}
use Rattle.mls_facts.proofs.Numbered.{is_some-numbered}
use Rattle.mls_facts.proofs.Entries.{by_number, at_new, elsewhere, has-inserted}
use Rattle.mls_labels.specs.Label.{Label}
use Rattle.mls_labels.specs.Scheme.{bounds_of}
use Rattle.mls_lines.specs.Names.{Names}
use Rattle.mls_state.specs.Changes.{with_object_at, renumbered}
use Rattle.mls_state.specs.Properties.{HasTree, HasWholeTables, is_known}
use Rattle.mls_state.specs.State.{State, is_active, is_subject}
use Rattle.mls_state.specs.declared.subject.ObjectLabels.{ObjectLabels}
use Rattle.mls_state.specs.declared.subject.Subject.{Subject}
use Rattle.mls_state.specs.First.{first_state, with_triples}
use Rattle.mls_tables.specs.Triples.{Triple, TripleSet, is_triple}
use Rattle.mls_tables.specs.declared.limits.TheConstants.{MAX_OBJECTS, MAX_SUBJECTS}
use Rattle.mls_tables.proofs.Laws.{contains-insert-triple, is_triple-itself}
use Rattle.mls_tree.specs.Tree as trees
use Rattle.mls_tree.specs.Tree.{next_number, IsNextOf, reaches_within, is_inferior}
use Rattle.mls_tree.proofs.Grown.{no_parent}
use Rattle.mls_tree.proofs.Laws.{is_inferior-Reaches}
use Rattle.mls_tree.specs.declared.profile.Profile.{Profile}
use Rattle.mls_tree.specs.declared.profile.Profile.TheVariants.{One, Two}
use Rattle.mls_snapshots.specs.declared.state_line.ObjectParts.{ObjectParts}
use Rattle.mls_snapshots.specs.declared.state_rows.StateRows.{StateRows}
use Rattle.mls_snapshots.specs.Rebuilding.{IsPart, IsBelow, AreObjectsOf, IsNamed}
use Rattle.mls_snapshots.specs.Saying.{parts_of, object_of, SaysAll}

-- an object of which something is said is active
said_active : (l i : Option Label) (p : Option ℕ) (x : ObjectParts) → parts_of l i p ≡ Some x → is_some l ≡ true
said_active (Some l) (Some i) p x is = refl
said_active (Some l) None p x is = cc
said_active None i p x is = cc

active_below : (v : State) (o : ℕ) (labels : ObjectLabels) (parent : ℕ) → IsBelow v o labels parent → is_active v o ≡ true
active_below v o labels parent below =
    said_active (map.get v.object_label o) (map.get v.object_integrity o) (map.get v.parent o) (record { labels = labels; parent = Some parent }) below

-- the next number of profile 1 is above each active object
next_above : (v : State) → HasTree v → v.profile ≡ One → (o : ℕ) → is_active v o ≡ true → o < v.next
next_above v tree one o active = subst (λ (p : Profile). IsNextOf p (is_active v) v.next) one tree.next.right o active

next_given : (p : Profile) (given : ℕ) (active : ℕ → Bool) → p ≡ One → next_number p given active ≡ given
next_given One given active one = refl
next_given Two given active one = cc

-- with one object more below an active one
module _ (v u : State) (o parent : ℕ) (labels : ObjectLabels) (tree : HasTree v) (below : IsBelow v o labels parent) (part : IsPart v u) where
  abbrev more : State
  more = with_object_at u o parent labels.security labels.integrity

  same_more : more ≡ record v {
    accesses = set.empty;
    matrix = set.empty;
    object_label = more.object_label;
    object_integrity = more.object_integrity;
    parent = more.parent;
    next = more.next;
  }
  same_more i = record (part.same i) {
    object_label = more.object_label;
    object_integrity = more.object_integrity;
    parent = more.parent;
    next = more.next;
  }

  root_more : is_active more 0 ≡ true
  root_more = has-inserted u.object_label o labels.security 0 ∙ or_right (nat_eq 0 o) (is_active u 0) part.root

  object_there : object_of more o ≡ object_of v o
  object_there = (λ i. parts_of (at_new u.object_label o labels.security i) (at_new u.object_integrity o labels.integrity i) (at_new u.parent o parent i)) ∙ sym below

  object_else : (q : ℕ) → nat_eq q o ≡ false → object_of more q ≡ object_of u q
  object_else q other = λ i. parts_of (elsewhere u.object_label o labels.security q other i) (elsewhere u.object_integrity o labels.integrity q other i) (elsewhere u.parent o parent q other i)

  was_active : (q : ℕ) → nat_eq q o ≡ false → is_active more q ≡ true → is_active u q ≡ true
  was_active q other active = sym (has-inserted u.object_label o labels.security q ∙ ap (λ b. b || is_active u q) other) ∙ active

  objects_more : (q : ℕ) → is_active more q ≡ true → object_of more q ≡ object_of v q
  objects_more q = by_number o q (λ k. is_active more k ≡ true → object_of more k ≡ object_of v k)
      (λ _. object_there) (λ other active. object_else q other ∙ part.objects q (was_active q other active))

  next_more : v.profile ≡ One → more.next ≤ v.next
  next_more one =
      let kind : u.profile ≡ One = ap (λ (w : State). w.profile) part.same ∙ one in
      let given : more.next ≡ max u.next (o + 1) = next_given u.profile (max u.next (o + 1)) (is_active more) kind in
      let first : u.next ≤ v.next = part.next one in
      let second : o < v.next = next_above v tree one o (active_below v o labels parent below) in
      omega (arith, given, first, second)

  pub part_more : IsPart v more
  part_more = record { same = same_more; root = root_more; objects = objects_more; next = next_more }

-- what is active stays so, and the object is there
pub active_more : (u : State) (o parent : ℕ) (l i : Label) (q : ℕ) → is_active u q ≡ true → is_active (with_object_at u o parent l i) q ≡ true
active_more u o parent l i q active = has-inserted u.object_label o l q ∙ or_right (nat_eq q o) (is_active u q) active

pub active_new : (u : State) (o parent : ℕ) (l i : Label) → is_active (with_object_at u o parent l i) o ≡ true
active_new u o parent l i = ap is_some (at_new u.object_label o l)

-- what a table has
there : {X : Type 0} (o : Option X) → is_some o ≡ true → (x : X) × (o ≡ Some x)
there None is = cc
there (Some x) is = (x, refl)

missing : {X : Type 0} (o : Option X) → is_some o ≡ false → o ≡ None
missing None is = refl
missing (Some x) is = cc

-- each active object of a tree reaches the root within as many steps as there are numbers
pub reached : (v : State) → HasTree v → (o : ℕ) → is_active v o ≡ true → reaches_within v.parent MAX_OBJECTS o 0 ≡ true
unfolding is_inferior
reached v tree o active =
    let below = (is_inferior-Reaches v.parent (is_active v) tree.objects o 0).1 (active, tree.objects.reaches_root o active) in
    (and_parts (trees.is_active v.parent o) (reaches_within v.parent MAX_OBJECTS o 0) below).1

-- an object that reaches the root within a step more is the root, or its parent does within so many
abbrev Up : State → ℕ → ℕ → Type 0
Up v n o = (p : ℕ) × (map.get v.parent o ≡ Some p) × (reaches_within v.parent n p 0 ≡ true)

up_by : (v : State) (n o : ℕ) (e : Option ℕ) → map.get v.parent o ≡ e → holds_of (λ p. reaches_within v.parent n p 0) e ≡ true → Up v n o
up_by v n o None is holds = cc
up_by v n o (Some p) is holds = (p, is, holds)

up : (v : State) (n o : ℕ) → reaches_within v.parent (suc n) o 0 ≡ true → (o ≡ 0) ⊎ Up v n o
unfolding reaches_within
up v n o reach = from (or_cases (nat_eq o 0) (holds_of (λ p. reaches_within v.parent n p 0) (map.get v.parent o)) reach) where
  from : (nat_eq o 0 ≡ true) ⊎ (holds_of (λ p. reaches_within v.parent n p 0) (map.get v.parent o) ≡ true) → (o ≡ 0) ⊎ Up v n o
  from (inl root) = let is : o ≡ 0 = grind (arith, nat_tests, root) in inl is
  from (inr holds) = inr (up_by v n o (map.get v.parent o) refl holds)

-- without a step only the root is reached
pub at_root : (v u : State) → is_active u 0 ≡ true → (o : ℕ) → reaches_within v.parent 0 o 0 ≡ true → is_active u o ≡ true
unfolding reaches_within
at_root v u root o reach = let is : o ≡ 0 = grind (arith, nat_tests, reach) in subst (λ q. is_active u q ≡ true) (sym is) root

-- where each object is there whose parent was, all are there that reach the root within a step more than those that were
pub step_up : (v u w : State) (n : ℕ) → is_active w 0 ≡ true
    → ((o p : ℕ) → map.get v.parent o ≡ Some p → is_active u p ≡ true → is_active w o ≡ true)
    → ((o : ℕ) → reaches_within v.parent n o 0 ≡ true → is_active u o ≡ true)
    → (o : ℕ) → reaches_within v.parent (suc n) o 0 ≡ true → is_active w o ≡ true
step_up v u w n root each before o reach = from (up v n o reach) where
  from : (o ≡ 0) ⊎ Up v n o → is_active w o ≡ true
  from (inl is) = subst (λ q. is_active w q ≡ true) (sym is) root
  from (inr more) = each o more.0 more.1 (before more.0 more.2)

-- where each object is there whose parent is, all are there that reach the root
pub closed : (v u : State) → is_active u 0 ≡ true
    → ((o p : ℕ) → map.get v.parent o ≡ Some p → is_active u p ≡ true → is_active u o ≡ true)
    → (n o : ℕ) → reaches_within v.parent n o 0 ≡ true → is_active u o ≡ true
closed v u root each zero = at_root v u root
closed v u root each (suc n) = step_up v u u n root each (closed v u root each n)

-- rows say of an object with a parent its labels and that parent
pub said_below : (v : State) (objects : List (Option ObjectParts)) → AreObjectsOf v objects → (o p : ℕ) → map.get v.parent o ≡ Some p
    → (labels : ObjectLabels) × (get_or objects o None ≡ Some (record { labels = labels; parent = Some p })) × (o < MAX_OBJECTS)
said_below v objects said o p is =
    let active = (said.tree.objects.children_active o p is).0 in
    let label = there (map.get v.object_label o) active in
    let own = there (map.get v.object_integrity o) (said.whole.object_integrity o ∙ active) in (
      record { security = label.0; integrity = own.0 },
      said.said o ∙ (λ i. parts_of (label.1 i) (own.1 i) (is i)),
      said.tree.objects.below o active,
    )

-- labels and parents that are alike where all is there
parts_alike : (l i m j : Option Label) (p q : Option ℕ) → parts_of l i p ≡ parts_of m j q → is_some l ≡ true → is_some i ≡ true
    → (l ≡ m) × (i ≡ j) × (p ≡ q)
parts_alike (Some l) (Some i) (Some m) (Some j) p q is label own =
    let x = same_Some (record { labels = record { security = l; integrity = i }; parent = p }) (record { labels = record { security = m; integrity = j }; parent = q }) is in
    (ap (λ (x : ObjectParts). Some x.labels.security) x, ap (λ (x : ObjectParts). Some x.labels.integrity) x, ap (λ (x : ObjectParts). x.parent) x)
parts_alike (Some l) (Some i) (Some m) None p q is label own = cc
parts_alike (Some l) (Some i) None j p q is label own = cc
parts_alike (Some l) None m j p q is label own = cc
parts_alike None i m j p q is label own = cc

-- where all objects of the state are there, and the tables agree
module _ (v u : State) (tree : HasTree v) (whole : HasWholeTables v) (part : IsPart v u) (own : HasTree u) (agrees : HasWholeTables u)
    (all : (o : ℕ) → is_active v o ≡ true → is_active u o ≡ true) where
  abbrev Alike : ℕ → Type 0
  Alike o =
      (map.get u.object_label o ≡ map.get v.object_label o) × (map.get u.object_integrity o ≡ map.get v.object_integrity o)
      × (map.get u.parent o ≡ map.get v.parent o)

  alike_by : (o : ℕ) (a b : Bool) → is_active u o ≡ a → is_active v o ≡ b → Alike o
  alike_by o true b is_there is =
      parts_alike (map.get u.object_label o) (map.get u.object_integrity o) (map.get v.object_label o) (map.get v.object_integrity o)
      (map.get u.parent o) (map.get v.parent o) (part.objects o is_there) is_there (agrees.object_integrity o ∙ is_there)
  alike_by o false true gone is = absurd (let no : false ≡ true = sym gone ∙ all o is in cc)
  alike_by o false false gone is = (
    missing (map.get u.object_label o) gone ∙ sym (missing (map.get v.object_label o) is),
    missing (map.get u.object_integrity o) (agrees.object_integrity o ∙ gone) ∙ sym (missing (map.get v.object_integrity o) (whole.object_integrity o ∙ is)),
    no_parent u.parent o (λ p at. absurd (let no : false ≡ true = sym gone ∙ (own.objects.children_active o p at).0 in cc))
        ∙ sym (no_parent v.parent o (λ p at. absurd (let no : false ≡ true = sym is ∙ (tree.objects.children_active o p at).0 in cc))),
  )

  alike : (o : ℕ) → Alike o
  alike o = alike_by o (is_active u o) (is_active v o) refl refl

  labels_same : u.object_label ≡ v.object_label
  labels_same = same_map nat_cmp_total nat_cmp-IsAntisymmetric u.object_label v.object_label (λ o. (alike o).0)

  integrity_same : u.object_integrity ≡ v.object_integrity
  integrity_same = same_map nat_cmp_total nat_cmp-IsAntisymmetric u.object_integrity v.object_integrity (λ o. (alike o).1)

  parents_same : u.parent ≡ v.parent
  parents_same = same_map nat_cmp_total nat_cmp-IsAntisymmetric u.parent v.parent (λ o. (alike o).2)

  next_is : (p : Profile) → v.profile ≡ p → next_number p (max u.next v.next) (is_active u) ≡ v.next
  next_is One kind = let first : u.next ≤ v.next = part.next kind in let most : max u.next v.next ≡ v.next = omega arith in most
  next_is Two kind =
      ap (λ (m : FinMap nat_cmp Label). least_failing (λ o. map.contains_key m o) MAX_OBJECTS 0) labels_same
      ∙ sym (subst (λ (p : Profile). IsNextOf p (is_active v) v.next) kind tree.next.right)

  next_same : (n : ℕ) → n ≡ v.next → next_number u.profile (max u.next n) (is_active u) ≡ v.next
  next_same n is =
      (λ i. next_number (part.same i).profile (max u.next (is i)) (is_active u)) ∙ next_is v.profile refl

  pub all_there : (n : ℕ) → n ≡ v.next → renumbered u (max u.next n) ≡ record v { accesses = set.empty; matrix = set.empty }
  all_there n is i = record (part.same i) {
    object_label = labels_same i;
    object_integrity = integrity_same i;
    parent = parents_same i;
    next = next_same n is i;
  }

-- a triple of a list is in the set with those of the list
kept_in : (b : TripleSet) (ts : List Triple) (t : Triple) → set.contains b t ≡ true → set.contains (with_triples b ts) t ≡ true
kept_in b [] t is = is
kept_in b (u ∷ ts) t is = kept_in (set.insert b u) ts t (contains-insert-triple b u t ∙ or_right (is_triple t u) (set.contains b t) is)

listed_in : (b : TripleSet) (ts : List Triple) (i : ℕ) (d : Triple) → i < length ts → set.contains (with_triples b ts) (get_or ts i d) ≡ true
listed_in b [] i d within = absurd (omega (arith, within))
listed_in b (t ∷ ts) zero d within = kept_in (set.insert b t) ts t (contains-insert-triple b t t ∙ or_left (is_triple t t) (set.contains b t) (is_triple-itself t))
listed_in b (t ∷ ts) (suc i) d within = listed_in (set.insert b t) ts i d (omega (arith, within))

-- each triple of a list that makes one of a state's sets names what is there
known_of : (v : State) (b : TripleSet) (ts : List Triple) → with_triples set.empty ts ≡ b
    → ((t : Triple) → set.contains b t ≡ true → is_known v t ≡ true) → All (λ t. IsTrue (is_known v t)) ts
known_of v b ts is known k d within = known (get_or ts k d) (ap (λ s. set.contains s (get_or ts k d)) (sym is) ∙ listed_in set.empty ts k d within)

-- a state without triples, then with its matrix, and then with its accesses too
module _ (v a b c : State) (cells accesses : List Triple) (tree : HasTree v)
    (objects : a ≡ record v { accesses = set.empty; matrix = set.empty })
    (given : All (λ t. IsTrue (is_known a t)) cells → b ≡ record a { matrix = with_triples a.matrix cells })
    (accessed : All (λ t. IsTrue (is_known b t)) accesses → c ≡ record b { accesses = with_triples b.accesses accesses })
    (matrix_said : with_triples set.empty cells ≡ v.matrix) (accesses_said : with_triples set.empty accesses ≡ v.accesses) where
  cells_known : All (λ t. IsTrue (is_known a t)) cells
  cells_known =
      subst (λ (w : State). All (λ t. IsTrue (is_known w t)) cells) (sym objects)
      (known_of (record v { accesses = set.empty; matrix = set.empty }) v.matrix cells matrix_said tree.matrix_known)

  with_matrix : b ≡ record v { accesses = set.empty }
  with_matrix = given cells_known ∙ (λ i. record (objects i) { matrix = (ap (λ (w : State). with_triples w.matrix cells) objects ∙ matrix_said) i })

  accesses_known : All (λ t. IsTrue (is_known b t)) accesses
  accesses_known =
      subst (λ (w : State). All (λ t. IsTrue (is_known w t)) accesses) (sym with_matrix)
      (known_of (record v { accesses = set.empty }) v.accesses accesses accesses_said tree.accesses_known)

  pub completed : c ≡ v
  completed =
      accessed accesses_known
      ∙ (λ i. record (with_matrix i) { accesses = (ap (λ (w : State). with_triples w.accesses accesses) with_matrix ∙ accesses_said) i })

-- what is said of the root
said_parent : (l i : Option Label) (p : Option ℕ) (x : ObjectParts) → parts_of l i p ≡ Some x → x.parent ≡ p
said_parent (Some l) (Some i) p x is = sym (ap (λ (y : ObjectParts). y.parent) (same_Some (record { labels = record { security = l; integrity = i }; parent = p }) x is))
said_parent (Some l) None p x is = cc
said_parent None i p x is = cc

-- the first state of the rows
module _ (names : Names) (v : State) (rows : StateRows) (root : ObjectParts) (named : IsNamed names v) (said : SaysAll v rows)
    (is : get_or rows.objects.items 0 None ≡ Some root) where
  abbrev begun : State
  begun = first_state rows.subjects.items root.labels (bounds_of names.security) (bounds_of names.integrity) rows.profile

  same_begun : begun ≡ record v {
    accesses = set.empty;
    matrix = set.empty;
    object_label = begun.object_label;
    object_integrity = begun.object_integrity;
    parent = begun.parent;
    next = begun.next;
  }
  same_begun i = record begun {
    maximum = said.maximum i;
    current = said.current i;
    subject_integrity = said.integrity i;
    trusted = said.trusted i;
    profile = said.profile i;
    security = sym named.security i;
    integrity = sym named.integrity i;
  }

  root_begun : is_active begun 0 ≡ true
  root_begun = ap is_some (at_new map.empty 0 root.labels.security)

  orphan : root.parent ≡ None
  orphan =
      said_parent (map.get v.object_label 0) (map.get v.object_integrity 0) (map.get v.parent 0) root (sym (said.objects 0) ∙ is)
      ∙ named.tree.objects.root_has_no_parent

  no_parent_yet : map.get begun.parent 0 ≡ None
  no_parent_yet = map.get-empty nat_cmp 0

  object_begun : object_of begun 0 ≡ object_of v 0
  object_begun =
      (λ i. parts_of (at_new map.empty 0 root.labels.security i) (at_new map.empty 0 root.labels.integrity i) (no_parent_yet i))
      ∙ (λ i. Some (record { labels = root.labels; parent = sym orphan i }))
      ∙ sym is ∙ said.objects 0

  nobody_else : (o : ℕ) → nat_eq o 0 ≡ false → is_active begun o ≡ false
  nobody_else o other = ap is_some (elsewhere map.empty 0 root.labels.security o other ∙ map.get-empty nat_cmp o)

  objects_begun : (o : ℕ) → is_active begun o ≡ true → object_of begun o ≡ object_of v o
  objects_begun o = by_number 0 o (λ k. is_active begun k ≡ true → object_of begun k ≡ object_of v k)
      (λ _. object_begun) (λ other active. absurd (let no : false ≡ true = sym (nobody_else o other) ∙ active in cc))

  next_begun : v.profile ≡ One → begun.next ≤ v.next
  next_begun one = let below : 0 < v.next = next_above v named.tree one 0 named.tree.objects.root_active in omega (arith, below)

  pub part_begun : IsPart v begun
  part_begun = record { same = same_begun; root = root_begun; objects = objects_begun; next = next_begun }

pub none_some : (x : ObjectParts) → None ≡ Some x → ⊥
none_some x is = absurd (let no : is_some {T = ObjectParts} None ≡ true = ap is_some is in let never : false ≡ true = no in cc)

-- the rows of a state have the root, and at least one subject, and no more than there may be
module _ (names : Names) (v : State) (rows : StateRows) (named : IsNamed names v) (said : SaysAll v rows) where
  known_said : (s : ℕ) → is_subject v s ≡ nat_lt s (length rows.subjects.items)
  known_said s =
      ap (λ m. map.contains_key m s) (sym said.maximum)
      ∙ is_some-numbered (λ (x : Subject). Some x.maximum) (λ _. refl) rows.subjects.items s

  pub some_subject : 1 ≤ length rows.subjects.items
  some_subject = let below : nat_lt 0 (length rows.subjects.items) ≡ true = sym (known_said 0) ∙ named.first in grind (arith, nat_tests, below)

  few_by : (length rows.subjects.items ≤ MAX_SUBJECTS) ⊎ (MAX_SUBJECTS < length rows.subjects.items) → length rows.subjects.items ≤ MAX_SUBJECTS
  few_by (inl few) = few
  few_by (inr many) =
      let past : nat_lt MAX_SUBJECTS (length rows.subjects.items) ≡ true = grind (arith, nat_tests, many) in
      let no : MAX_SUBJECTS < MAX_SUBJECTS = named.few MAX_SUBJECTS (known_said MAX_SUBJECTS ∙ past) in
      absurd (omega (arith, no))

  pub few_subjects : length rows.subjects.items ≤ MAX_SUBJECTS
  few_subjects = few_by (⊎_swap (cases_lt MAX_SUBJECTS (length rows.subjects.items))) where
    ⊎_swap : (MAX_SUBJECTS < length rows.subjects.items) ⊎ (length rows.subjects.items ≤ MAX_SUBJECTS) → (length rows.subjects.items ≤ MAX_SUBJECTS) ⊎ (MAX_SUBJECTS < length rows.subjects.items)
    ⊎_swap (inl h) = inr h
    ⊎_swap (inr h) = inl h

  pub root_said : get_or rows.objects.items 0 None ≡ None → ⊥
  root_said none =
      let label = there (map.get v.object_label 0) named.tree.objects.root_active in
      let own = there (map.get v.object_integrity 0) (named.whole.object_integrity 0 ∙ named.tree.objects.root_active) in
      let root : ObjectParts = record { labels = record { security = label.0; integrity = own.0 }; parent = map.get v.parent 0 } in
      none_some root (sym none ∙ said.objects 0 ∙ (λ i. parts_of (label.1 i) (own.1 i) (map.get v.parent 0)))

-- with the next triple in, those after it are left
pub triples_left : (b : TripleSet) (ts : List Triple) (k : ℕ) (t : Triple) → k < length ts → t ≡ get_or ts k t
    → with_triples (set.insert b t) (drop (k + 1) ts) ≡ with_triples b (drop k ts)
triples_left b ts k t within at = ap (with_triples b) (sym (drop_more ts k t within ∙ ap (λ x. x ∷ drop (k + 1) ts) (sym at)))

pub same_parent : (x : ObjectParts) (labels : ObjectLabels) (p q : ℕ) → Some x ≡ Some (record { labels = labels; parent = Some p }) → x.parent ≡ Some q → q ≡ p
same_parent x labels p q is at =
    same_Some q p (sym at ∙ ap (λ (y : ObjectParts). y.parent) (same_Some x (record { labels = labels; parent = Some p }) is))

pub no_parent_said : (x : ObjectParts) (labels : ObjectLabels) (p : ℕ) → Some x ≡ Some (record { labels = labels; parent = Some p }) → x.parent ≡ None → ⊥
no_parent_said x labels p is at =
    let some : x.parent ≡ Some p = ap (λ (y : ObjectParts). y.parent) (same_Some x (record { labels = labels; parent = Some p }) is) in
    absurd (let no : is_some {T = ℕ} None ≡ true = ap is_some (sym at ∙ some) in let never : false ≡ true = no in cc)

-- a statement at each number below one more
pub one_more : (P : ℕ → Type 0) (n : ℕ) → ((o : ℕ) → o < n → P o) → P n → (o : ℕ) → o < n + 1 → P o
one_more P n before here o below = from (cases_lt o n) where
  from : (o < n) ⊎ (n ≤ o) → P o
  from (inl less) = before o less
  from (inr past) = let same : n ≡ o = omega (arith, past, below) in subst P same here
