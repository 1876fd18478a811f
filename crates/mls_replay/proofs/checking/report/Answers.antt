use Rattle.std.proofs.Common.{◌≡◌, ◌++◌, ap, subst, ◌∙◌}
use Rattle.std.specs.Prelude.{string_bytes, codes, IfOk, if◌then◌else◌}
use Rattle.mls_replay.specs.Checked.{check_text}
use Rattle.mls_replay.proofs.Starts.{checks_over}
use Rattle.mls_replay.proofs.checking.report.Goals as goal

pub returns : goal.returns
returns c =
    let word : c.yes_or_no-secure.result.now ≡ codes "yes" = c.yes_or_no-secure.ensures ∙ ap (λ b. if b then codes "yes" else codes "no") c.in_ok-opens_secure.ensures in
    let whole : string_bytes c.in_ok-counts.counts ++ (codes "secure " ++ (c.yes_or_no-secure.result.now ++ codes "\n"))
    ≡ check_text c.subject_count-subjects.result c.object_count-objects.result c.cell_count-cells.result c.access_count-accesses.result =
    λ i. c.in_ok-counts.ensures i ++ (codes "secure " ++ (word i ++ codes "\n")) in
    checks_over c.args.start.now c.subject_count-subjects.result c.object_count-objects.result c.cell_count-cells.result c.access_count-accesses.result (λ text. string_bytes text) _
    c.subject_count-subjects.ensures.count c.object_count-objects.ensures.count c.cell_count-cells.ensures c.access_count-accesses.ensures
    (subst (λ told. IfOk c.format.result (λ text. string_bytes text ≡ told)) whole c.format.ensures.ok)
