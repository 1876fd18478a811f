use Rattle.std.proofs.Common.{◌≡◌, ◌<◌, ◌≤◌, None, cond, eqb, filter, length, get_or, sym, ap, ◌∙◌, arith}
use Rattle.std.proofs.lemmas.List.{with_items_is}
use Rattle.std.specs.List.{list_any}
use Rattle.mls_tree.specs.Tree.{inferiors}
use Rattle.mls_tree.specs.Kept.{stays_listed}
use Rattle.mls_facts.proofs.Numbered.{get-numbered-option}
use Rattle.mls_tree.proofs.Kept.{cleared_ascend, group_active, parents_of-retain, removed_next, IsKept-retain}
use Rattle.mls_tree.proofs.tree.Tree.remove_group.Goals as goal

pub clear_each-requires : goal.clear_each-requires
clear_each-requires g c k d h =
    let parents = c.self.inside.parents.items in
    let all = c.requires.3 ∙ ap (λ t. inferiors t.parent c.requires.0) (sym c.self.view_is) in
    let below : get_or c.args.group.now k d < length parents = c.self.invariant.below _ (group_active parents c.args.group.now c.requires.0 c.self.invariant.tree all k d h) in
    let many : length parents ≤ length c.self.inside.children.lists = c.self.invariant.as_many in
    omega arith

pub discard_each-requires-clause-numbers : goal.discard_each-requires-clause-numbers
discard_each-requires-clause-numbers g c k d h =
    let parents = c.self.inside.parents.items in
    let all = c.requires.3 ∙ ap (λ t. inferiors t.parent c.requires.0) (sym c.self.view_is) in
    rw c.deref.ensures.value (c.self.invariant.below _ (group_active parents c.args.group.now c.requires.0 c.self.invariant.tree all k d h))

pub discard_each-requires-clause-listed : goal.discard_each-requires-clause-listed
discard_each-requires-clause-listed g c x p is =
    let parents = c.self.inside.parents.items in
    let step = get-numbered-option parents x ∙ ap (λ l. get_or l x None) (sym c.deref.ensures.value) ∙ is in
    let below : p < length parents = c.self.invariant.below p (c.self.invariant.tree.children_active x p step).1 in
    let enough : length parents ≤ length c.self.inside.children.lists = c.self.invariant.as_many in
    let many : length c.clear_each.new.lists.lists ≡ length c.self.inside.children.lists = c.clear_each.ensures.many in
    omega arith

pub discard_each-requires-clause-ascend : goal.discard_each-requires-clause-ascend
discard_each-requires-clause-ascend g c q =
    rw (c.clear_each.ensures.cleared q) (cleared_ascend c.self.inside.parents.items c.self.inside.children.lists c.self.invariant.rows (list_any (eqb q) c.args.group.now) q)

pub forget_each-requires : goal.forget_each-requires
forget_each-requires g c k d h =
    let parents = c.self.inside.parents.items in
    let all = c.requires.3 ∙ ap (λ t. inferiors t.parent c.requires.0) (sym c.self.view_is) in
    rw c.deref_mut.ensures.value (c.self.invariant.below _ (group_active parents c.args.group.now c.requires.0 c.self.invariant.tree all k d h))

pub free_each-requires : goal.free_each-requires
free_each-requires g c k d h =
    let parents = c.self.inside.parents.items in
    let all = c.requires.3 ∙ ap (λ t. inferiors t.parent c.requires.0) (sym c.self.view_is) in
    c.self.invariant.tree.below _ (group_active parents c.args.group.now c.requires.0 c.self.invariant.tree all k d h)

pub invariant_of-self : goal.invariant_of-self
invariant_of-self g c =
    let parents = c.self.inside.parents.items in
    let group = c.args.group.now in
    let lists = c.self.inside.children.lists in
    let all = c.requires.3 ∙ ap (λ t. inferiors t.parent c.requires.0) (sym c.self.view_is) in
    let many = c.forget_each.auto.parents ∙ ap length c.deref_mut.ensures.value in
    rw (with_items_is c.self.inside.parents c.forget_each.new.parents (c.forget_each.auto.parents ∙ c.deref_mut.ensures.len))
    (IsKept-retain parents group c.requires.0 c.self.invariant.tree all c.forget_each.new.parents many
    (λ q. c.forget_each.ensures q ∙ ap (λ l. cond (list_any (eqb q) group) None (get_or l q None)) c.deref_mut.ensures.value)
    lists c.discard_each.new.lists.lists c.self.inside.active c.free_each.new.numbers c.self.invariant c.requires.2 (c.discard_each.ensures.many ∙ c.clear_each.ensures.many)
    (λ q. c.discard_each.ensures.left q ∙ (λ i. filter (stays_listed (c.deref.ensures.value i) group q) (c.clear_each.ensures.cleared q i))) c.free_each.ensures)

pub returns : goal.returns
returns g c o is =
    let parents = c.self.inside.parents.items in
    let group = c.args.group.now in
    let all = is ∙ ap (λ t. inferiors t.parent o) (sym c.self.view_is) in
    let many = c.forget_each.auto.parents ∙ ap length c.deref_mut.ensures.value in
    let after = with_items_is c.self.inside.parents c.forget_each.new.parents (c.forget_each.auto.parents ∙ c.deref_mut.ensures.len) in
    let map_is = parents_of-retain parents group o c.self.invariant.tree all c.forget_each.new.parents many
    (λ q. c.forget_each.ensures q ∙ ap (λ l. cond (list_any (eqb q) group) None (get_or l q None)) c.deref_mut.ensures.value) in
    rw (after, ← c.self.view_is) (λ i. record {
      profile = c.self.inside.profile;
      parent = map_is i;
      next = removed_next c.self.inside.profile parents c.forget_each.new.parents _ many map_is i;
    })
