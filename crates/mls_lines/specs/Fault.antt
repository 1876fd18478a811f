-- The faults of a line: what they are called, and which comes first.
use Rattle.std.specs.Prelude.{ℕ, List, codes, Result, Ok, Err}
use Rattle.mls_lines.specs.declared.fault.LineFault.{LineFault}
use Rattle.mls_lines.specs.declared.fault.LineFault.TheVariants.{BadForm, UnknownName, BadLabel}

-- What a fault is called. (own)
abbrev pub fault_text : LineFault → List ℕ
fault_text BadForm = codes "bad form"
fault_text UnknownName = codes "bad name"
fault_text BadLabel = codes "bad label"

-- The first of two faults in the order bad form, unknown name, bad label. (own)
abbrev pub first_fault : LineFault → LineFault → LineFault
first_fault BadForm f = BadForm
first_fault UnknownName BadForm = BadForm
first_fault UnknownName UnknownName = UnknownName
first_fault UnknownName BadLabel = UnknownName
first_fault BadLabel f = f

-- Two parts of a line: both, or the first of their faults, wherever it stands in the line. (own)
abbrev pub both : {X Y : Type 0} → Result X LineFault → Result Y LineFault → Result (X × Y) LineFault
both (Ok x) (Ok y) = Ok (x, y)
both (Ok x) (Err f) = Err f
both (Err f) (Ok y) = Err f
both (Err f) (Err g) = Err (first_fault f g)
