use Rattle.std.proofs.Common.{◌≡◌, Some, sym, ◌∙◌, arith}
use Rattle.std.specs.FinMap as map
use Rattle.mls_futures.specs.Closure.{acts_in}
use Rattle.mls_ways.specs.Ways.{IsLowered}
use Rattle.mls_ways.proofs.Leading.{leads_on}
use Rattle.mls_ways.proofs.Making.{near_parent, above_lowered}
use Rattle.mls_ways.proofs.lowering.+lower_path.Goals as goal

pub overflow_sub-left : goal.overflow_sub-left
overflow_sub-left t c =
    let near = near_parent c.args.state.now (acts_in c.args.actors.now) c.requires.secure.tree c.args.left c.args.o c.in-Some.p (sym c.parent.ensures.parent ∙ c.in-Some.is) c.requires.near in
    let some = near.0 in omega (arith, some)

pub lower_path-requires : goal.lower_path-requires
lower_path-requires t c =
    let at = sym c.parent.ensures.parent ∙ c.in-Some.is in
    let near = near_parent c.args.state.now (acts_in c.args.actors.now) c.requires.secure.tree c.args.left c.args.o c.in-Some.p at c.requires.near in
    let some = near.0 in
    let left = c.decreases in (
      omega (arith, some, left),
      (
        c.requires.secure,
        (
          c.requires.within,
          (
            c.requires.nothing,
            (
              c.requires.trusted,
              ((c.requires.secure.tree.objects.children_active c.args.o c.in-Some.p at).1, near.1),
            ),
          ),
        ),
      ),
    )

pub lower-requires-in-Some-clause-above : goal.lower-requires-in-Some-clause-above
lower-requires-in-Some-clause-above t c =
    above_lowered (acts_in c.args.actors.now) c.args.state.now c.lower_path.new.state c.args.o c.in-Some.p (sym c.parent.ensures.parent ∙ c.in-Some.is)
    c.in_ok-lower_path-in-Some.ensures.alike c.in_ok-lower_path-in-Some.ensures.now

pub returns-in_ok-lower-in-Some : goal.returns-in_ok-lower-in-Some
returns-in_ok-lower-in-Some t c =
    leads_on (acts_in c.args.actors.now) c.args.state.now c.lower_path.new.state c.lower-in-Some.new.state c.args.script.now.items c.lower_path.new.script.items
    c.lower-in-Some.new.script.items (IsLowered c.in-Some.p) (IsLowered c.args.o) c.in_ok-lower_path-in-Some.ensures c.in_ok-lower-in-Some.ensures
