use Rattle.std.proofs.Common.{◌∙◌, ap, sym, length}
use Rattle.std.specs.List.{after_first, position_or_len}
use Rattle.std.specs.Prelude.{◌==◌, string_bytes}
use Rattle.mls_labels.specs.Label.{has_label}
use Rattle.mls_labels.specs.LabelText.{written}
use Rattle.mls_labels.specs.Scheme.{bounds_of}
use Rattle.mls_snapshots.proofs.SchemeNames.{category_named, category_lacks, category_has_colon}
use Rattle.mls_snapshots.proofs.scheme_names.category_name.Goals as goal

pub returns-then-not-has : goal.returns-then-not-has
returns-then-not-has c =
    let s = c.args.scheme.now in
    category_lacks s c.args.n c.requires (ap (has_label (bounds_of s)) (sym c.category_label-label.ensures) ∙ sym c.has.ensures ∙ c.if-not-has.true)

pub returns-in-Some : goal.returns-in-Some
returns-in-Some c =
    let s = c.args.scheme.now in
    category_named s c.args.n (string_bytes c.in_ok-text.text) c.requires
    (ap (has_label (bounds_of s)) (sym c.category_label-label.ensures) ∙ sym c.has.ensures ∙ c.if-not-has.false)
    (c.in_ok-text.ensures ∙ ap (written s) c.category_label-label.ensures) _
    (c.in_ok-from_str-in-Some.ensures.ok ∙ c.in-Some.ensures.some ∙ ap (after_first (λ b. b == 58)) c.as_str.ensures.value)

pub returns : goal.returns
returns c =
    let s = c.args.scheme.now in
    absurd (category_has_colon s c.args.n (string_bytes c.in_ok-text.text) c.requires
    (ap (has_label (bounds_of s)) (sym c.category_label-label.ensures) ∙ sym c.has.ensures ∙ c.if-not-has.false)
    (c.in_ok-text.ensures ∙ ap (written s) c.category_label-label.ensures)
    (ap (position_or_len (λ b. b == 58)) (sym c.as_str.ensures.value) ∙ c.in-None.ensures.none ∙ ap length c.as_str.ensures.value))
