use Rattle.std.proofs.Common.{None, get_or, List, Option, sym, subst, ap, ◌∙◌, arith}
use Rattle.mls_labels.specs.Scheme.{bounds_of}
use Rattle.mls_state.specs.First.{first_state}
use Rattle.mls_state.specs.State.{State}
use Rattle.mls_snapshots.specs.declared.state_line.ObjectParts.{ObjectParts}
use Rattle.mls_snapshots.specs.Rebuilding.{IsPart}
use Rattle.mls_snapshots.proofs.Rebuilt.{some_subject, few_subjects, root_said, part_begun}
use Rattle.mls_snapshots.proofs.rebuilding.first_state.Goals as goal

pub returns-then-count-eq0-clause-some : goal.returns-then-count-eq0-clause-some
returns-then-count-eq0-clause-some c v named said =
    absurd (let some = some_subject c.args.names.now v c.args.rows.now named said in omega (arith, some, c.len-count.ensures, c.if-count-eq0.true))

pub returns-then-count-clause-some : goal.returns-then-count-clause-some
returns-then-count-clause-some c v named said =
    absurd (let few = few_subjects c.args.names.now v c.args.rows.now named said in omega (arith, few, c.len-count.ensures, c.if-count.true))

pub returns-in_default-clause-some : goal.returns-in_default-clause-some
returns-in_default-clause-some c v named said =
    absurd (root_said c.args.names.now v c.args.rows.now named said
    (ap (λ (xs : List (Option ObjectParts)). get_or xs 0 None) (sym c.deref.ensures.value) ∙ sym c.said_of.ensures ∙ c.in_default.is))

pub returns-clause-part : goal.returns-clause-part
returns-clause-part c v named said =
    let is =
    ap (λ (xs : List (Option ObjectParts)). get_or xs 0 None) (sym c.deref.ensures.value) ∙ sym c.said_of.ensures ∙ c.in-Some.is in
    subst (λ (w : State). IsPart v w)
    (sym (c.in_ok-state.ensures ∙ (λ i. first_state (c.deref-2.ensures.value i) c.in-Some.root.labels ((c.bounds.ensures.counts ∙ ap bounds_of c.security.ensures) i)
    ((c.bounds-2.ensures.counts ∙ ap bounds_of c.integrity.ensures) i) c.args.rows.now.profile)))
    (part_begun c.args.names.now v c.args.rows.now c.in-Some.root named said is)
