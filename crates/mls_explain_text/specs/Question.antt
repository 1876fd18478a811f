-- What the line of a question asks.
use Rattle.std.specs.Prelude.{ℕ, Bool, ◌||◌, ◌==◌, List, [], Some, None, Result, Ok, Err, if◌then◌else◌}
use Rattle.std.specs.List.{list_any}
use Rattle.mls_requests.specs.declared.ask.Ask.{Ask}
use Rattle.mls_lines.specs.declared.fault.LineFault.{LineFault}
use Rattle.mls_lines.specs.declared.fault.LineFault.TheVariants.{BadForm}
use Rattle.mls_lines.specs.LineView.{LineView, Blank, Asks}
use Rattle.mls_lines.specs.Names.{Names}
use Rattle.mls_lines.specs.ScriptLine.{line_of}

-- Whether a byte is a `$` or a newline. (own)
abbrev pub is_barred : ℕ → Bool
is_barred b = b == 36 || b == 10

-- What a line asks as a question: what it asks as a line of a script, where it asks something and binds nothing. (own)
abbrev pub question_in : Result LineView LineFault → Result Ask LineFault
question_in (Err fault) = Err fault
question_in (Ok Blank) = Err BadForm
question_in (Ok (Asks None ask)) = Ok ask
question_in (Ok (Asks (Some name) ask)) = Err BadForm

-- What the line of a question asks by the names of a start: no variable is bound, and no `$` and no newline stands in
-- it. (own)
abbrev pub question_of : Names → List ℕ → Result Ask LineFault
question_of names line = if list_any is_barred line then Err BadForm else question_in (line_of names [] line)
