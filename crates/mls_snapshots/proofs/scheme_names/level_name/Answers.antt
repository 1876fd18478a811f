use Rattle.std.proofs.Common.{◌∙◌, ap, sym}
use Rattle.mls_labels.specs.Label.{has_label}
use Rattle.mls_labels.specs.LabelText.{written}
use Rattle.mls_labels.specs.Scheme.{bounds_of}
use Rattle.mls_snapshots.proofs.SchemeNames.{level_named, level_lacks}
use Rattle.mls_snapshots.proofs.scheme_names.level_name.Goals as goal

pub returns-then-not-has : goal.returns-then-not-has
returns-then-not-has c =
    let s = c.args.scheme.now in
    level_lacks s c.args.n (ap (has_label (bounds_of s)) (sym c.level_label-label.ensures) ∙ sym c.has.ensures ∙ c.if-not-has.true)

pub returns : goal.returns
returns c =
    let s = c.args.scheme.now in
    level_named s c.args.n _ (ap (has_label (bounds_of s)) (sym c.level_label-label.ensures) ∙ sym c.has.ensures ∙ c.if-not-has.false)
    (c.in_ok-label_text.ensures ∙ ap (written s) c.level_label-label.ensures)
