-- What a line of a script says.
use Rattle.std.specs.Prelude.{ℕ, List, Option, Result, Ok, Err, option_map}
use Rattle.mls_requests.specs.declared.action.Action.{Action}
use Rattle.mls_requests.specs.declared.ask.Ask.{Ask}
use Rattle.mls_requests.specs.declared.ask.Ask.TheVariants as ask
use Rattle.mls_lines.specs.declared.line.Line.{Line}
use Rattle.mls_lines.specs.declared.line.Line.TheVariants as line
use Rattle.mls_lines.specs.declared.fault.LineFault.{LineFault}

-- What a line says: nothing, or what it asks, and the name of the variable to bind where it has one. (own)
pub data LineView : Type 0 where
  Blank : LineView
  Asks : Option (List ℕ) → Ask → LineView

-- What a line of the program says. (own)
abbrev pub said_by : Line → LineView
said_by line.Blank = Blank
said_by (line.Ask bind a) = Asks (option_map (λ name. name.now) bind) a

-- What the program's reading of a line says. (own)
abbrev pub line_view : Result Line LineFault → Result LineView LineFault
line_view (Ok l) = Ok (said_by l)
line_view (Err f) = Err f

-- The request of a subject for an action. (own)
abbrev pub submits : ℕ → Action → Ask
submits s a = ask.Submit (record { subject = s; action = a })
