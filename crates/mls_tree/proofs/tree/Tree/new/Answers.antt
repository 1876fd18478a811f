use Rattle.std.proofs.Common.{[], get_or, ap, ◌∙◌}
use Rattle.mls_tree.specs.Tree.{is_active, next_number}
use Rattle.mls_tree.proofs.Next.{next-root}
use Rattle.mls_tree.proofs.Kept.{parents_of-root, IsKept-root}
use Rattle.mls_tree.proofs.tree.Tree.new.Goals as goal

pub invariant_of-result : goal.invariant_of-result
invariant_of-result g c =
    rw c.in_ok-parents.ensures (IsKept-root c.ensure_list.new.self.lists c.in_ok-active.active c.in_ok-ensure_list.ensures.room (λ o. c.ensure_list.ensures.same o ∙ ap (λ l. get_or l o []) c.in_ok-children.ensures) c.in_ok-active.ensures)

pub returns : goal.returns
returns g c =
    rw c.in_ok-parents.ensures (λ i. record {
      profile = c.args.profile;
      parent = parents_of-root i;
      next = (ap (λ m. next_number c.args.profile 1 (is_active m)) parents_of-root ∙ next-root c.args.profile) i;
    })
