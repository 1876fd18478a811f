use Rattle.std.specs.Prelude.{◌≡◌, [], IfOk}
use Rattle.std.proofs.Common.{◌∙◌, refl, subst}
use Rattle.mls_c.specs.Opened.{Opened, opened_with}
use Rattle.mls_c.proofs.opening.open_loaded.Goals as goal

pub returns-in-Ok : goal.returns-in-Ok
returns-in-Ok c =
    let same : c.of.result ≡ opened_with c.args.loaded [] =
    c.of.ensures ∙ rw (c.in-Ok.ensures.ok.start, c.in-Ok.ensures.ok.entries, c.in-Ok.ensures.ok.forgotten, c.into_parts-names.ensures.names, c.into_parts-names.ensures.start) refl in
    subst (λ (o : Opened). IfOk c.boxed.result (λ b. b.value ≡ o)) same c.boxed.ensures
