use Rattle.std.proofs.Common.{ℕ, ◌<◌, ◌≤◌, length, get_or, ap, subst, ◌∙◌, arith, rules}
use Rattle.std.proofs.lemmas.List.Sorted.{IsNonDecreasingBy-from_sort_by_key}
use Rattle.mls_tables.specs.declared.limits.TheConstants.{MAX_OBJECTS}
use Rattle.mls_tree.specs.Tree.{Hierarchy, IsTree, is_active, children}
use Rattle.mls_tree.proofs.Found.{Finds-first, Finds-more, found_few, found_active, inferiors_found}
use Rattle.mls_tree.proofs.tree.Tree.list_inferiors.Goals as goal

abbrev IsWhole : Hierarchy → Type 0
IsWhole h = IsTree h.parent (is_active h.parent)

pub loop-at-init : goal.loop-at-init
loop-at-init g c =
    let tree = subst IsWhole c.self.view_is c.self.invariant.tree in
    rw (c.in_ok-push.ensures.items, c.clear.ensures.items) (Finds-first c.args.self.now.parent tree c.args.o c.requires)

pub add_children-requires-clause-listed : goal.add_children-requires-clause-listed
add_children-requires-clause-listed g c =
    let tree = subst IsWhole c.self.view_is c.self.invariant.tree in
    let within : c.loop-at.at < length c.loop-at.group.items = omega arith in
    let active = found_active c.args.self.now.parent tree c.args.o c.requires c.loop-at.group.items c.loop-at.at c.loop-at.invariant within in
    let v = get_or c.loop-at.group.items c.loop-at.at 0 in
    let below : v < length c.self.inside.parents.items = c.self.invariant.below v (ap (λ h. is_active h.parent v) c.self.view_is ∙ active) in
    let many : length c.self.inside.parents.items ≤ length c.self.inside.children.lists = c.self.invariant.as_many in
    omega arith

pub loop-at-smaller : goal.loop-at-smaller
loop-at-smaller g c =
    let tree = subst IsWhole c.self.view_is c.self.invariant.tree in
    let within : c.loop-at.at < length c.loop-at.group.items = omega arith in
    let few : length c.loop-at.group.items ≤ MAX_OBJECTS = found_few c.args.self.now.parent tree c.args.o c.requires c.loop-at.group.items c.loop-at.at c.loop-at.invariant in
    omega arith

pub loop-at-preserved : goal.loop-at-preserved
loop-at-preserved g c =
    let tree = subst IsWhole c.self.view_is c.self.invariant.tree in
    let within : c.loop-at.at < length c.loop-at.group.items = omega arith in
    let v = get_or c.loop-at.group.items c.loop-at.at 0 in
    let below = c.self.invariant.rows v ∙ ap (λ h. children h.parent v) c.self.view_is in
    rw (c.in_ok-add_children.ensures, below) (Finds-more c.args.self.now.parent tree c.args.o c.requires c.loop-at.group.items c.loop-at.at c.loop-at.invariant within)

pub returns : goal.returns
returns g c =
    let tree = subst IsWhole c.self.view_is c.self.invariant.tree in
    let all : length c.loop-at.group.items ≤ c.loop-at.at = omega arith in
    let ordered = IsNonDecreasingBy-from_sort_by_key (λ (x : ℕ). x) c.sort_unstable_by_key.new.self.items c.sort_unstable_by_key.ensures.sorted (λ a r q k. search rules) in
    inferiors_found c.args.self.now.parent tree c.args.o c.requires c.loop-at.group.items c.sort_unstable_by_key.new.self.items c.loop-at.at c.loop-at.invariant all c.sort_unstable_by_key.ensures.permutation ordered
