-- When labels of two schemes are alike.
use Rattle.std.specs.Prelude.{Bool, Option, Some, None, Result, Ok, Err, if◌then◌else◌}
use Rattle.mls_facts.specs.Numbered.{holds_of}
use Rattle.mls_labels.specs.Label.{Label, has_label}
use Rattle.mls_labels.specs.LabelText.{written}
use Rattle.mls_labels.specs.Reading.{label_at}
use Rattle.mls_labels.specs.Same.{same_label}
use Rattle.mls_labels.specs.Scheme.{Scheme, bounds_of}
use Rattle.mls_labels.specs.declared.label_fault.LabelFault.{LabelFault}

-- A label that was read, where one was. (own)
abbrev pub label_read : Result Label LabelFault → Option Label
label_read (Ok l) = Some l
label_read (Err fault) = None

-- The counterpart of a label: the label that has the names in the other scheme that this one has in its own, which is
-- the one that the other scheme reads from its text. (own)
abbrev pub carried_label : Scheme → Scheme → Label → Option Label
carried_label scheme other l =
    if has_label (bounds_of scheme) l then label_read (label_at other (written scheme l)) else None

-- Whether a label of another scheme is the counterpart of a label: its level and its categories have the same names.
-- (own)
abbrev pub is_like : Scheme → Scheme → Label → Label → Bool
is_like scheme other l m = holds_of (λ k. same_label k m) (carried_label scheme other l)
