use Rattle.std.proofs.Common.{◌≡◌, ◌++◌, ◌∷◌, [], true, cond, All, sym, ap, ◌∙◌, subst}
use Rattle.mls_state.specs.State.{is_subject}
use Rattle.mls_review.proofs.Ranges.{listed_more, listed_pass}
use Rattle.mls_review.proofs.known.subjects.Goals as goal

pub loop-n-preserved : goal.loop-n-preserved
loop-n-preserved g c =
    c.in_ok-push_subject.ensures ∙ ap (λ t. t ++ cond (is_subject c.args.state.now c.loop-n.n) (c.loop-n.n ∷ []) []) c.loop-n.invariant
    ∙ sym (listed_more (is_subject c.args.state.now) c.loop-n.n)

pub returns-clause-known : goal.returns-clause-known
returns-clause-known g c =
    subst (All (λ k. is_subject c.args.state.now k ≡ true)) (sym c.loop-n.invariant) (listed_pass (is_subject c.args.state.now) c.loop-n.n)
