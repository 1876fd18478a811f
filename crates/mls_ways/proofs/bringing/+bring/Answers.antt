use Rattle.std.proofs.Common.{sym, ◌∙◌, arith}
use Rattle.mls_tables.specs.declared.mode.Mode.TheVariants.{Write}
use Rattle.mls_futures.specs.Closure.{acts_in}
use Rattle.mls_futures.proofs.Laws.{alike_on, got_qualifies, qualifies_still}
use Rattle.mls_ways.specs.Ways.{HoldsOnly, IsPermitted}
use Rattle.mls_ways.proofs.Leading.{leads_on}
use Rattle.mls_ways.proofs.Making.{near_parent, could_be_given, got_known}
use Rattle.mls_ways.proofs.bringing.+bring.Goals as goal

pub obtain-requires-clause-qualifies : goal.obtain-requires-clause-qualifies
obtain-requires-clause-qualifies t c = got_qualifies c.args.state.now (acts_in c.args.actors.now) c.args.s c.args.o c.args.x c.requires.could

pub obtain-requires-in_default-clause-qualifies : goal.obtain-requires-in_default-clause-qualifies
obtain-requires-in_default-clause-qualifies t c =
    qualifies_still (acts_in c.args.actors.now) c.args.state.now c.give_at_root.new.state c.in_ok-give_at_root.ensures.alike c.args.s c.args.o c.args.x
    (got_qualifies c.args.state.now (acts_in c.args.actors.now) c.args.s c.args.o c.args.x c.requires.could)

pub returns-in_default : goal.returns-in_default
returns-in_default t c =
    leads_on (acts_in c.args.actors.now) c.args.state.now c.give_at_root.new.state c.obtain-in_default.new.state c.args.script.now.items c.give_at_root.new.script.items
    c.obtain-in_default.new.script.items (IsPermitted (c.args.s, c.args.o, c.args.x)) (HoldsOnly (c.args.s, c.args.o, c.args.x))
    c.in_ok-give_at_root.ensures c.in_ok-obtain-2.ensures

pub giver_of-requires-clause-gives : goal.giver_of-requires-clause-gives
giver_of-requires-clause-gives t c =
    could_be_given c.args.state.now (acts_in c.args.actors.now) c.args.s c.args.o c.args.x c.requires.could (sym c.discretionary_holds.ensures ∙ c.if-discretionary_holds.false)

pub overflow_sub-left : goal.overflow_sub-left
overflow_sub-left t c =
    let near = near_parent c.args.state.now (acts_in c.args.actors.now) c.requires.secure.tree c.args.left c.args.o c.in-Some.p (sym c.parent.ensures.parent ∙ c.in-Some.is) c.requires.near in
    let some = near.0 in omega (arith, some)

pub bring-requires : goal.bring-requires
bring-requires t c =
    let at = sym c.parent.ensures.parent ∙ c.in-Some.is in
    let near = near_parent c.args.state.now (acts_in c.args.actors.now) c.requires.secure.tree c.args.left c.args.o c.in-Some.p at c.requires.near in
    let some = near.0 in
    let left = c.decreases in
    let could = c.in-Some-giver_of.ensures in
    let known = got_known c.args.state.now (acts_in c.args.actors.now) c.in-Some-giver_of.giver c.in-Some.p Write could in
    (omega (arith, some, left), (c.requires.secure, (c.requires.within, (c.requires.nothing, (known.0, (known.1, (could, near.1)))))))

pub obtain-requires-2-clause-qualifies : goal.obtain-requires-2-clause-qualifies
obtain-requires-2-clause-qualifies t c =
    qualifies_still (acts_in c.args.actors.now) c.args.state.now c.give_below.new.state
    (alike_on (acts_in c.args.actors.now) c.args.state.now c.bring.new.state c.give_below.new.state c.in_ok-bring.ensures.alike c.in_ok-give_below.ensures.alike)
    c.args.s c.args.o c.args.x (got_qualifies c.args.state.now (acts_in c.args.actors.now) c.args.s c.args.o c.args.x c.requires.could)

pub returns : goal.returns
returns t c =
    leads_on (acts_in c.args.actors.now) c.args.state.now c.bring.new.state c.obtain-2.new.state c.args.script.now.items c.bring.new.script.items c.obtain-2.new.script.items
    (HoldsOnly (c.in-Some-giver_of.giver, c.in-Some.p, Write)) (HoldsOnly (c.args.s, c.args.o, c.args.x)) c.in_ok-bring.ensures
    (leads_on (acts_in c.args.actors.now) c.bring.new.state c.give_below.new.state c.obtain-2.new.state c.bring.new.script.items c.give_below.new.script.items
    c.obtain-2.new.script.items (IsPermitted (c.args.s, c.args.o, c.args.x)) (HoldsOnly (c.args.s, c.args.o, c.args.x)) c.in_ok-give_below.ensures c.in_ok-obtain-3.ensures)
