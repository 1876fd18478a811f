use Rattle.std.proofs.Common.{◌≡◌, ◌++◌, ◌∷◌, [], true, cond, All, length, sym, ap, ◌∙◌, subst, arith}
use Rattle.mls_state.specs.State.{is_active}
use Rattle.mls_review.proofs.Ranges.{listed_more, listed_pass, listed_few}
use Rattle.mls_review.proofs.known.objects.Goals as goal

pub loop-n-preserved : goal.loop-n-preserved
loop-n-preserved g c =
    c.in_ok-push_object.ensures ∙ ap (λ t. t ++ cond (is_active c.args.state.now c.loop-n.n) (c.loop-n.n ∷ []) []) c.loop-n.invariant
    ∙ sym (listed_more (is_active c.args.state.now) c.loop-n.n)

pub returns-clause-active : goal.returns-clause-active
returns-clause-active g c =
    subst (All (λ k. is_active c.args.state.now k ≡ true)) (sym c.loop-n.invariant) (listed_pass (is_active c.args.state.now) c.loop-n.n)

pub returns-clause-few : goal.returns-clause-few
returns-clause-few g c = omega (arith, ap length c.loop-n.invariant, listed_few (is_active c.args.state.now) c.loop-n.n)
