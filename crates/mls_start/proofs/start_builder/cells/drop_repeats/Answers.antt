use Rattle.std.proofs.Common.{ℕ, rules}
use Rattle.std.proofs.lemmas.Fn.{dedup_same}
use Rattle.std.proofs.lemmas.List.Sorted.{answers_always}
use Rattle.mls_tables.specs.Mode.{mode_number}
use Rattle.mls_tables.specs.Triples.{Triple, is_triple}
use Rattle.mls_start.proofs.Cells.{once-same, once-length, once-ascending}
use Rattle.mls_start.proofs.start_builder.cells.drop_repeats.Goals as goal

pub returns-clause-same : goal.returns-clause-same
returns-clause-same g c =
    let once = dedup_same _ is_triple _ (λ x y b f' x' y' k. search rules) _ _ c.dedup_by_key.ensures.filtered in
    once-same _ _ _ c.sort_unstable_by_key.ensures.permutation once

pub returns-clause-count : goal.returns-clause-count
returns-clause-count g c =
    let once = dedup_same _ is_triple _ (λ x y b f' x' y' k. search rules) _ _ c.dedup_by_key.ensures.filtered in
    let place : Triple → ℕ × (ℕ × ℕ) = λ t. (t.0, (t.1, mode_number t.2)) in
    once-length _ _ _ c.sort_unstable_by_key.ensures.permutation once
    (c.sort_unstable_by_key.ensures.sorted place (answers_always _ _ _ (λ f a r f' k. search rules)))

pub returns-clause-ascending : goal.returns-clause-ascending
returns-clause-ascending g c =
    let once = dedup_same _ is_triple _ (λ x y b f' x' y' k. search rules) _ _ c.dedup_by_key.ensures.filtered in
    let place : Triple → ℕ × (ℕ × ℕ) = λ t. (t.0, (t.1, mode_number t.2)) in
    once-ascending _ _ _ c.sort_unstable_by_key.ensures.permutation once
    (c.sort_unstable_by_key.ensures.sorted place (answers_always _ _ _ (λ f a r f' k. search rules)))
