use Rattle.std.proofs.Common.{◌≡◌, true, false, length, Some, refl, sym, ap, ◌∙◌}
use Rattle.std.specs.Prelude.{slice_get}
use Rattle.std.proofs.lemmas.Option.{slice_get_read}
use Rattle.mls_futures.specs.Closure.{acts_in}
use Rattle.mls_futures.proofs.Walking.{top_is_root, at_top, shut, open_here, through, way_begins, way_goes_on, way_ends}
use Rattle.mls_futures.proofs.closure.could_give_above.Goals as goal

pub loop-step-init : goal.loop-step-init
loop-step-init g c = way_begins c.args.state.now (acts_in c.args.actors.now) c.agrees.ensures.tree c.args.o c.requires.object

pub returns-in-Some : goal.returns-in-Some
returns-in-Some g c =
    let read = c.in-Some.ensures.lookup in
    let way = c.loop-step.invariant in
    let there : slice_get c.args.known.now c.loop-step.at ≡ Some c.in-Some.open.now =
    ap (slice_get c.args.known.now) (sym c.number.ensures)
    ∙ slice_get_read c.args.known.now (length c.args.known.now) c.number.result c.in-Some.open.now refl read.3.0 read.1 in
    let same = c.requires.known c.loop-step.at c.in-Some.open.now there way.active in
    (λ is. way.same.1 (same.0 is), λ gives. same.1 (way.same.0 gives))

pub returns-in-None : goal.returns-in-None
returns-in-None g c =
    let v = c.args.state.now in
    let acts = acts_in c.args.actors.now in
    let way = c.loop-step.invariant in
    let root = top_is_root v acts c.agrees.ensures.tree c.loop-step.at way.active (sym c.parent.ensures.parent ∙ c.in-None.is) in
    let top = at_top v acts c.agrees.ensures.tree c.loop-step.at root in
    (λ is. way.same.1 (top.1 (c.requires.trusted.0 is)), λ gives. c.requires.trusted.1 (top.0 (way.same.0 gives)))

pub returns-then-has_permitted_writer : goal.returns-then-has_permitted_writer
returns-then-has_permitted_writer g c =
    let one = c.has_permitted_writer.ensures.0 c.if-has_permitted_writer.true in (
      λ is. c.loop-step.invariant.same.1
          (open_here c.args.state.now (acts_in c.args.actors.now) c.agrees.ensures.tree c.loop-step.at c.in-Some-parent.parent (sym c.parent.ensures.parent ∙ c.in-Some-parent.is) one.0 one.1 one.2),
      λ gives. refl,
    )

pub returns-then-not-has_writer : goal.returns-then-not-has_writer
returns-then-not-has_writer g c = (
  λ is. let no : false ≡ true = is in cc,
  λ gives. absurd
      (shut c.args.state.now (acts_in c.args.actors.now) c.agrees.ensures.tree c.loop-step.at c.in-Some-parent.parent (sym c.parent.ensures.parent ∙ c.in-Some-parent.is)
      (λ one. let is : c.has_writer.result ≡ true = c.has_writer.ensures.1 one in let is_not = c.if-not-has_writer.true in cc)
      (c.loop-step.invariant.same.0 gives)),
)

pub loop-step-preserved : goal.loop-step-preserved
loop-step-preserved g c =
    let above = sym c.parent.ensures.parent ∙ c.in-Some-parent.is in
    let one = c.has_writer.ensures.0 c.if-not-has_writer.false in
    way_goes_on c.args.state.now (acts_in c.args.actors.now) c.agrees.ensures.tree c.args.o c.loop-step.at c.loop-step.step c.in-Some-parent.parent c.loop-step.invariant above
    (through c.args.state.now (acts_in c.args.actors.now) c.agrees.ensures.tree c.loop-step.at c.in-Some-parent.parent above
    (λ some. let is : c.has_permitted_writer.result ≡ true = c.has_permitted_writer.ensures.1 some in
    let is_not = c.if-has_permitted_writer.false in cc) one.0 one.1)

pub returns : goal.returns
returns g c =
    let v = c.args.state.now in
    let acts = acts_in c.args.actors.now in
    let way = c.loop-step.invariant in
    let root = way_ends v acts c.agrees.ensures.tree c.args.o c.loop-step.at c.loop-step.step c.loop-step-test.false way in
    let top = at_top v acts c.agrees.ensures.tree c.loop-step.at root in
    (λ is. way.same.1 (top.1 (c.requires.trusted.0 is)), λ gives. c.requires.trusted.1 (top.0 (way.same.0 gives)))
