-- Labels in a line.
use Rattle.std.specs.Prelude.{ℕ, Bool, ◌&&◌, nat_le, List, Result, Ok, Err, if◌then◌else◌}
use Rattle.std.specs.List.{list_all}
use Rattle.mls_labels.specs.Label.{Label}
use Rattle.mls_labels.specs.Scheme.{Scheme}
use Rattle.mls_labels.specs.Reading.{label_at}
use Rattle.mls_labels.specs.declared.label_fault.LabelFault.{LabelFault}
use Rattle.mls_lines.specs.declared.fault.LineFault.{LineFault}
use Rattle.mls_lines.specs.declared.fault.LineFault.TheVariants.{BadForm, BadLabel}

-- A byte of a label: any that is seen when printed. (own)
abbrev pub is_label_byte : ℕ → Bool
is_label_byte b = nat_le 33 b && nat_le b 126

-- What a scheme reads, or the fault that it reads no label, for whatever cause. (own)
abbrev pub label_read : Result Label LabelFault → Result Label LineFault
label_read (Ok label) = Ok label
label_read (Err fault) = Err BadLabel

-- The label that a token names in a scheme. (own)
abbrev pub label_named : Scheme → List ℕ → Result Label LineFault
label_named scheme token = if list_all is_label_byte token then label_read (label_at scheme token) else Err BadForm
