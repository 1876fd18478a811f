use Rattle.std.proofs.Common.{map, not, sym, ap, ◌∙◌}
use Rattle.mls_could.specs.Actors.{names_it, is_one}
use Rattle.mls_could.proofs.Flags.{list_any-map}
use Rattle.mls_could.proofs.actors.is_one.Goals as goal

pub returns-in-Named : goal.returns-in-Named
returns-in-Named c =
    c.is_named.ensures ∙ sym (list_any-map (names_it c.args.names.now c.args.s) (λ word. word.now) c.args.words.now)
    ∙ ap (λ k. is_one c.args.names.now c.args.state.now k (map (λ word. word.now) c.args.words.now) c.args.s) (sym c.in-Named.is)

pub returns-in-Others : goal.returns-in-Others
returns-in-Others c =
    ap not (c.is_named-in-Others.ensures ∙ sym (list_any-map (names_it c.args.names.now c.args.s) (λ word. word.now) c.args.words.now))
    ∙ ap (λ k. is_one c.args.names.now c.args.state.now k (map (λ word. word.now) c.args.words.now) c.args.s) (sym c.in-Others.is)
