use Rattle.std.proofs.Common.{◌≡◌, ◌≤◌, length, ap, ◌∙◌, arith}
use Rattle.std.specs.Prelude.{max}
use Rattle.mls_tables.specs.declared.limits.TheConstants.{MAX_OBJECTS}
use Rattle.mls_tree.specs.Tree.{with_parents}
use Rattle.mls_tree.proofs.Padded.{IsKept-padded, padded_map, padded_view}
use Rattle.mls_tree.proofs.tree.Tree.skip_to.Goals as goal

pub invariant_of-self-2 : goal.invariant_of-self-2
invariant_of-self-2 g c =
    let parents = c.self.inside.parents.items in
    let more = c.make_places.new.parents.items in
    let many : length more ≡ max (length parents) c.args.end = c.in_ok-make_places.ensures.many in
    let few : length parents ≤ MAX_OBJECTS = c.self.invariant.few in
    IsKept-padded parents more c.make_places.ensures.parents c.self.inside.children.lists c.make_places.new.lists.lists c.self.inside.active c.self.invariant
    (omega (arith, many)) (omega (arith, many, few)) c.make_places.ensures.room c.make_places.ensures.same

pub returns-clause-ok : goal.returns-clause-ok
returns-clause-ok g c =
    let parents = c.self.inside.parents.items in
    let more = c.make_places.new.parents.items in
    padded_view parents more c.make_places.ensures.parents c.self.inside.profile c.args.end c.in_ok-make_places.ensures.many
    ∙ ap (λ h. with_parents h h.parent (max h.next c.args.end)) c.self.view_is
