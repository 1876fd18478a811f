use Rattle.std.proofs.Common.{◌≡◌, ◌++◌, map, take, option_map, Some}
use Rattle.mls_requests.specs.ModeWords.{read_mode}
use Rattle.mls_start_text.specs.Each.{each_of}
use Rattle.mls_start_text.specs.PlaceViews.{triple_view}
use Rattle.mls_start_text.specs.Views.{text_view}
use Rattle.mls_start_text.proofs.places.place_cell.Given as goal

-- the triples of the words so far were added
abbrev pub invariant-loop-value : goal.invariant-loop-value
invariant-loop-value l =
    option_map (λ modes. map triple_view l.fn.triples.items ++ map (λ x. (l.subject, l.object, x)) modes) (each_of read_mode (map text_view (take l.value-index l.cell.modes.now)))
    ≡ Some (map triple_view l.triples.items)
