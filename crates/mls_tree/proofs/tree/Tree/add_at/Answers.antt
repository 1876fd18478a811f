use Rattle.std.proofs.Common.{◌≡◌, ◌+◌, ◌<◌, ◌≤◌, ℕ, false, IsTrue, length, refl, sym, ap, subst, ◌∙◌, arith}
use Rattle.std.specs.Prelude.{max}
use Rattle.std.specs.FinMap as map
use Rattle.mls_tables.specs.declared.limits.TheConstants.{MAX_OBJECTS}
use Rattle.mls_tree.specs.Tree.{Hierarchy, is_active, with_parents}
use Rattle.mls_tree.specs.Kept.{parents_of}
use Rattle.mls_tree.proofs.Kept.{IsKept-placed}
use Rattle.mls_tree.proofs.Listed.{length-children}
use Rattle.mls_tree.proofs.Padded.{IsKept-padded, padded_map, placed_view}
use Rattle.mls_tree.proofs.tree.Tree.add_at.Goals as goal

pub enter-requires-clause-few : goal.enter-requires-clause-few
enter-requires-clause-few g c =
    let list = c.make_places.ensures.same c.args.parent ∙ c.self.invariant.rows c.args.parent in
    rw list (length-children (parents_of c.self.inside.parents.items) c.args.parent)

pub invariant_of-self-in-Ok : goal.invariant_of-self-in-Ok
invariant_of-self-in-Ok g c =
    let parents = c.self.inside.parents.items in
    let more = c.make_places.new.parents.items in
    let lists = c.make_places.new.lists.lists in
    let n = c.number-number.result in
    let number : n ≡ c.args.o = c.number-number.ensures in
    let many : length more ≡ max (length parents) (n + 1) = c.in_ok-make_places.ensures.many in
    let few : length parents ≤ MAX_OBJECTS = c.self.invariant.few in
    let room : c.args.o < MAX_OBJECTS = c.requires.room in
    let kept = IsKept-padded parents more c.make_places.ensures.parents c.self.inside.children.lists lists c.self.inside.active c.self.invariant
    (omega (arith, many)) (omega (arith, many, few, room, number)) c.make_places.ensures.room c.make_places.ensures.same in
    let map_is = padded_map parents more c.make_places.ensures.parents in
    let free : is_active (parents_of more) n ≡ false =
    (λ i. is_active (map_is i) (number i)) ∙ ap (λ (h : Hierarchy). is_active h.parent c.args.o) c.self.view_is ∙ c.requires.free in
    let above : IsTrue (is_active (parents_of more) c.args.parent) =
    ap (λ m. is_active m c.args.parent) map_is ∙ ap (λ (h : Hierarchy). is_active h.parent c.args.parent) c.self.view_is ∙ c.requires.parent in
    let place : n ≤ length more = omega (arith, many) in
    let there : length more ≤ length lists = c.make_places.ensures.room in
    let same_many : length c.enter.new.lists.lists ≡ length lists = c.enter.ensures.many in
    rw c.in-Ok.ensures.parents
    (IsKept-placed more lists c.self.inside.active kept n c.args.parent place (omega (arith, room, number)) free above
    lists c.enter.new.lists.lists (omega (arith, many, there, same_many)) (omega (arith, same_many)) (λ q. refl) c.in-Ok.ensures.lists
    c.insert.new.self c.insert.ensures)

pub returns-in-Ok-clause-ok : goal.returns-in-Ok-clause-ok
returns-in-Ok-clause-ok g c =
    let parents = c.self.inside.parents.items in
    let more = c.make_places.new.parents.items in
    rw c.in-Ok.ensures.parents
    (placed_view parents more c.make_places.ensures.parents c.self.inside.profile c.number-number.result c.args.parent c.in_ok-make_places.ensures.many
    ∙ (λ i. with_parents (c.self.view_is i) (map.insert (c.self.view_is i).parent (c.number-number.ensures i) c.args.parent) (max (c.self.view_is i).next (c.number-number.ensures i + 1))))
