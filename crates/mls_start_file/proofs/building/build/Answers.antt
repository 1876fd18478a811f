use Rattle.std.proofs.Common.{◌≡◌, length, is_some, ap, sym, ◌∙◌, arith}
use Rattle.mls_start_file.specs.Building.{count_fault}
use Rattle.mls_start_text.specs.Each.{each_of}
use Rattle.mls_start_text.specs.LabelViews.{labels_view}
use Rattle.mls_start_text.specs.NameViews.{names_view}
use Rattle.mls_start_file.specs.Placing.{placed_child}
use Rattle.mls_start_text.specs.PlaceViews.{placed_view}
use Rattle.mls_start_file.proofs.Counts.{refused_by_count}
use Rattle.mls_start_file.proofs.Tied.{counted_rows}
use Rattle.mls_start_file.proofs.building.build.Goals as goal

pub returns-in-Some-clause-fault : goal.returns-in-Some-clause-fault
returns-in-Some-clause-fault c = λ _.
    let labels = c.args.labels.now in
    let subjects : length labels.subjects.items ≡ c.len.result = omega (arith, labels.subjects.ok.0, c.len.ensures) in
    let children : length labels.children.items ≡ c.len-2.result = omega (arith, labels.children.ok.0, c.len-2.ensures) in
    refused_by_count (names_view c.args.names.now) (labels_view labels) (placed_view c.args.places.now) c.in-Some.fault
    (ap (λ rows. is_some (each_of placed_child rows)) (sym c.deref.ensures.value) ∙ sym c.if-not-are_placed.ensures)
    (ap (λ n. count_fault n (length labels.children.items)) subjects ∙ ap (count_fault c.len.result) children ∙ sym c.in-Some.ensures.fault)

pub returns-in-Ok-clause-counts : goal.returns-in-Ok-clause-counts
returns-in-Ok-clause-counts c =
    rw c.in-Ok.ensures.ok (counted_rows (names_view c.args.names.now) (labels_view c.args.labels.now) (placed_view c.args.places.now) c.in_ok-fill.field-0 c.in_ok-fill.ensures.ok)
