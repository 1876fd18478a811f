use Rattle.std.proofs.Common.{List, ◌++◌, ◌∷◌, [], map, refl, sym}
use Rattle.mls_requests.specs.ModeWords.{read_mode}
use Rattle.mls_tables.specs.Triples.{Triple}
use Rattle.mls_tables.specs.declared.mode.Mode.{Mode}
use Rattle.mls_start_text.specs.PlaceViews.{triple_view}
use Rattle.mls_start_text.specs.Views.{text_view}
use Rattle.mls_start_text.proofs.Placed.{cell_lacks, modes_joined, mode_more}
use Rattle.mls_start_text.proofs.Rows.{items_lack, fold_more}
use Rattle.mls_start_text.proofs.places.place_cell.Goals as goal

pub returns-in_default-mode_of-clause-fault : goal.returns-in_default-mode_of-clause-fault
returns-in_default-mode_of-clause-fault c =
    λ _. (refl, cell_lacks _ _ (λ s o (xs : List Mode). map (λ x. (s, o, x)) xs) _ (items_lack text_view read_mode c.args.cell.now.modes.now c.loop-value.value-index c.value-item.result c.loop-value-test.true c.value-item.is (sym c.in_default-mode_of.ensures)))

pub loop-value-preserved : goal.loop-value-preserved
loop-value-preserved c =
    let s = c.in-Some.subject in
    let o = c.in-Some-place.object in
    fold_more text_view read_mode (λ (xs : List Mode). map triple_view c.args.triples.now.items ++ map (λ x. (s, o, x)) xs) (λ (ts : List Triple) (x : Mode). ts ++ (s, o, x) ∷ []) (modes_joined (map triple_view c.args.triples.now.items) s o)
    c.args.cell.now.modes.now c.loop-value.value-index c.value-item.result (map triple_view c.loop-value.triples.items) (map triple_view c.push.new.self.items) c.loop-value-test.true c.value-item.is
    (mode_more c.loop-value.triples.items c.push.new.self.items s o (read_mode (text_view c.value-item.result)) c.in-Some-mode_of.mode (sym c.in-Some-mode_of.ensures) c.in_ok-push.ensures.items)
    c.loop-value.invariant
