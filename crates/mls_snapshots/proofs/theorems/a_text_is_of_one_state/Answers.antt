use Rattle.std.proofs.Common.{subst, ap, ◌∙◌}
use Rattle.mls_labels.specs.Scheme.{IsScheme}
use Rattle.mls_lines.specs.Names.{Names}
use Rattle.mls_snapshots.proofs.OneText.{one_state}
use Rattle.mls_snapshots.proofs.theorems.a_text_is_of_one_state.Goals as goal

pub returns : goal.returns
returns c =
    let names = c.args.loaded.now.names in
    let security = subst IsScheme (c.security.ensures ∙ ap (λ (n : Names). n.security) c.names-names.ensures.names) c.bounds.ensures.sound in
    let integrity = subst IsScheme (c.integrity.ensures ∙ ap (λ (n : Names). n.integrity) c.names-names.ensures.names) c.bounds-2.ensures.sound in
    λ v w has.
    one_state names c.args.loaded.now.start c.names-names.ensures.tied c.names-names.ensures.few has
    c.a_written_label_is_spelled.ensures c.a_text_has_one_meaning.ensures.label c.modes_have_their_words.ensures.apart security integrity v w
