use Rattle.std.proofs.Common.{◌≡◌, ℕ, true, map, ap, subst, ◌∙◌}
use Rattle.std.specs.Prelude.{IfOk, IfErr, OnOk}
use Rattle.mls_futures.specs.Closure.{acts_in}
use Rattle.mls_could.specs.Actors.{are_known, is_actor, RefusesActors}
use Rattle.mls_could.proofs.actors.actors_of.Goals as goal

pub returns-clause-ok : goal.returns-clause-ok
returns-clause-ok c =
    subst (λ ws. IfOk c.of_named-flags.result (λ flags. (s : ℕ) → acts_in flags.items s ≡ is_actor c.args.names.now c.args.state.now c.args.choice ws s))
    (ap (map (λ word. word.now)) c.deref.ensures.value ∙ c.in_ok-parts.ensures) c.of_named-flags.ensures.ok

pub returns-clause-known : goal.returns-clause-known
returns-clause-known c =
    subst (λ ws. OnOk c.of_named-flags.result (are_known c.args.names.now c.args.state.now ws ≡ true)) (ap (map (λ word. word.now)) c.deref.ensures.value ∙ c.in_ok-parts.ensures)
    c.of_named-flags.ensures.known

pub returns-clause-fault : goal.returns-clause-fault
returns-clause-fault c =
    subst (λ ws. IfErr c.of_named-flags.result (λ fault. RefusesActors c.args.names.now c.args.state.now ws fault)) (ap (map (λ word. word.now)) c.deref.ensures.value ∙ c.in_ok-parts.ensures)
    c.of_named-flags.ensures.fault
