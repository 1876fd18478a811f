use Rattle.std.proofs.Common.{ℕ, rules, ◌∙◌}
use Rattle.std.proofs.lemmas.Fn.{always_returns_same}
use Rattle.mls_tables.specs.Mode.{mode_number}
use Rattle.mls_tables.specs.Triples.{Triple}
use Rattle.mls_start.proofs.Cells.{found}
use Rattle.mls_start.proofs.start_builder.cells.has_triple.Goals as goal

pub returns : goal.returns
returns c =
    let place : Triple → ℕ × (ℕ × ℕ) = λ t. (t.0, (t.1, mode_number t.2)) in
    let always = always_returns_same _ _ _ (λ a r f' called. search rules) in
    c.is_ok.ensures.value
    ∙ found c.args.cells.now c.args.triple.now c.binary_search_by_key.result c.binary_search_by_key.ensures.bound
    (rw (c.place-at.ensures.subject, c.place-at.ensures.object, c.place-at.ensures.mode) at (c.binary_search_by_key.ensures.position place always))
    c.requires
