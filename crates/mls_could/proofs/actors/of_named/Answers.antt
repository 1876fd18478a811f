use Rattle.std.proofs.Common.{sym, ◌∙◌}
use Rattle.std.proofs.lemmas.List.Folds.{list_all-map}
use Rattle.mls_could.specs.Actors.{names_known}
use Rattle.mls_could.proofs.actors.of_named.Goals as goal

pub returns-then-not-are_known-clause-fault : goal.returns-then-not-are_known-clause-fault
returns-then-not-are_known-clause-fault c =
    list_all-map (names_known c.args.names.now c.args.state.now) (λ word. word.now) c.args.words.now ∙ sym c.are_known.ensures ∙ c.if-not-are_known.true

pub returns-clause-known : goal.returns-clause-known
returns-clause-known c =
    list_all-map (names_known c.args.names.now c.args.state.now) (λ word. word.now) c.args.words.now ∙ sym c.are_known.ensures ∙ c.if-not-are_known.false
