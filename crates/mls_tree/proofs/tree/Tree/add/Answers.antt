use Rattle.std.proofs.Common.{◌≡◌, ◌<◌, ◌≤◌, IsTrue, length, sym, ap, subst, ◌∙◌, arith}
use Rattle.mls_tables.specs.declared.limits.TheConstants.{MAX_OBJECTS}
use Rattle.mls_tree.specs.Tree.{is_active, next_number}
use Rattle.mls_tree.specs.Kept.{parents_of}
use Rattle.mls_tree.proofs.Listed.{length-children}
use Rattle.mls_tree.proofs.Next.{next_free, next_most}
use Rattle.mls_tree.proofs.Kept.{IsKept-placed, HasNext-kept, parents_of-placed, placed_next}
use Rattle.mls_tree.proofs.tree.Tree.add.Goals as goal

pub ensure_list-requires : goal.ensure_list-requires
ensure_list-requires g c =
    let parents = c.self.inside.parents.items in
    let kept = c.self.invariant in
    let at : c.next-next.result ≡ next_number c.self.inside.profile (length parents) (is_active (parents_of parents)) = c.next-next.ensures.number ∙ sym (ap (λ h. h.next) c.self.view_is) in
    let most = next_most c.self.inside.profile (is_active (parents_of parents)) (length parents) (length parents) (omega arith) kept.below in
    let many : length parents ≤ length c.self.inside.children.lists = kept.as_many in
    omega (arith, at, most)

pub enter-requires-clause-place : goal.enter-requires-clause-place
enter-requires-clause-place g c =
    let parents = c.self.inside.parents.items in
    let kept = c.self.invariant in
    let at : c.next-next.result ≡ next_number c.self.inside.profile (length parents) (is_active (parents_of parents)) = c.next-next.ensures.number ∙ sym (ap (λ h. h.next) c.self.view_is) in
    let most = next_most c.self.inside.profile (is_active (parents_of parents)) (length parents) (length parents) (omega arith) kept.below in
    omega (arith, at, most)

pub enter-requires-clause-list : goal.enter-requires-clause-list
enter-requires-clause-list g c =
    let parents = c.self.inside.parents.items in
    let kept = c.self.invariant in
    let above : IsTrue (is_active (parents_of parents) c.args.parent) = subst (λ h. IsTrue (is_active h.parent c.args.parent)) (sym c.self.view_is) c.requires in
    let low : c.args.parent < length parents = kept.below c.args.parent above in
    let many : length parents ≤ length c.self.inside.children.lists = kept.as_many in
    let longer : length c.self.inside.children.lists ≤ length c.ensure_list.new.self.lists = c.ensure_list.ensures.longer in
    omega arith

pub enter-requires-clause-few : goal.enter-requires-clause-few
enter-requires-clause-few g c =
    let parents = c.self.inside.parents.items in
    let list = c.ensure_list.ensures.same c.args.parent ∙ c.self.invariant.rows c.args.parent in
    rw list (length-children (parents_of parents) c.args.parent)

pub invariant_of-self-2 : goal.invariant_of-self-2
invariant_of-self-2 g c =
    let parents = c.self.inside.parents.items in
    let m = parents_of parents in
    let kept = c.self.invariant in
    let n = c.next-next.result in
    let at : n ≡ next_number c.self.inside.profile (length parents) (is_active m) = c.next-next.ensures.number ∙ sym (ap (λ h. h.next) c.self.view_is) in
    let most = next_most c.self.inside.profile (is_active m) (length parents) (length parents) (omega arith) kept.below in
    let room : n < MAX_OBJECTS = omega arith in
    let free = ap (is_active m) at ∙ next_free c.self.inside.profile (is_active m) _ (HasNext-kept c.self.inside.profile parents c.self.inside.children.lists c.self.inside.active kept) (omega (arith, at, room)) in
    let above : IsTrue (is_active m c.args.parent) = subst (λ h. IsTrue (is_active h.parent c.args.parent)) (sym c.self.view_is) c.requires in
    let many = c.enter.ensures.many in
    let there : n < length c.ensure_list.new.self.lists = c.in_ok-ensure_list.ensures.room in
    let longer : length c.self.inside.children.lists ≤ length c.ensure_list.new.self.lists = c.ensure_list.ensures.longer in
    rw c.in_ok-enter.ensures.parents
    (IsKept-placed parents c.self.inside.children.lists c.self.inside.active kept n c.args.parent (omega (arith, at, most)) room free above
    c.ensure_list.new.self.lists c.enter.new.lists.lists (omega (arith, many, there)) (omega (arith, many, longer)) c.ensure_list.ensures.same c.in_ok-enter.ensures.lists
    c.insert.new.self c.insert.ensures)

pub returns-clause-ok : goal.returns-clause-ok
returns-clause-ok g c =
    let parents = c.self.inside.parents.items in
    let kept = c.self.invariant in
    let n = c.next-next.result in
    let at : n ≡ next_number c.self.inside.profile (length parents) (is_active (parents_of parents)) = c.next-next.ensures.number ∙ sym (ap (λ h. h.next) c.self.view_is) in
    let most = next_most c.self.inside.profile (is_active (parents_of parents)) (length parents) (length parents) (omega arith) kept.below in
    let place : n ≤ length parents = omega (arith, at, most) in
    rw (c.in_ok-enter.ensures.parents, ← c.self.view_is, ← at) (λ i. record {
      profile = c.self.inside.profile;
      parent = parents_of-placed parents n c.args.parent place i;
      next = placed_next c.self.inside.profile parents n c.args.parent at place i;
    })
