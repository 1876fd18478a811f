use Rattle.std.proofs.Common.{◌≡◌, ◌-◌, Some, ap, sym, ◌∙◌, arith}
use Rattle.mls_start_faults.specs.Starts.{leads_to}
use Rattle.mls_start_faults.proofs.Cycles.{leads_none, leads_end, leads_here, leads_on}
use Rattle.mls_start_faults.proofs.starts.is_in_cycle.Goals as goal

pub returns-in_default : goal.returns-in_default
returns-in_default c =
    let children = c.args.labels.now.children.items in
    let none = leads_none children c.args.n c.loop-left.left in
    sym (c.loop-left.invariant ∙ ap (leads_to children c.args.n c.loop-left.left) c.in_default.is ∙ none)

pub returns-then-parent-n : goal.returns-then-parent-n
returns-then-parent-n c =
    let children = c.args.labels.now.children.items in
    let here = leads_here children c.args.n c.loop-left.left c.loop-left-test.true in
    sym (c.loop-left.invariant ∙ ap (leads_to children c.args.n c.loop-left.left) (c.in-Some.is ∙ ap Some c.if-parent-n.true) ∙ here)

pub loop-left-preserved : goal.loop-left-preserved
loop-left-preserved c =
    let children = c.args.labels.now.children.items in
    let on = leads_on children c.args.n c.loop-left.left c.in-Some.parent c.loop-left-test.true c.if-parent-n.false in
    c.loop-left.invariant ∙ ap (leads_to children c.args.n c.loop-left.left) c.in-Some.is ∙ on
    ∙ ap (leads_to children c.args.n (c.loop-left.left - 1)) (sym c.parent_of-next-in-loop-left.ensures)

pub returns : goal.returns
returns c =
    let children = c.args.labels.now.children.items in
    let zero : c.loop-left.left ≡ 0 = omega (arith, c.loop-left-test.false) in
    sym (c.loop-left.invariant ∙ ap (λ steps. leads_to children c.args.n steps c.loop-left.next) zero ∙ leads_end children c.args.n c.loop-left.next)
