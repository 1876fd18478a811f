-- What the lines ask that are read in one pass: gets, releases and checks.
use Rattle.std.specs.Prelude.{ℕ, List, codes}
use Rattle.mls_requests.specs.declared.action.Action.TheVariants as action
use Rattle.mls_requests.specs.declared.ask.Ask.{Ask}
use Rattle.mls_requests.specs.declared.ask.Ask.TheVariants as ask
use Rattle.mls_tables.specs.declared.mode.Mode.{Mode}
use Rattle.mls_lines.specs.LineView.{submits}
use Rattle.mls_scripts.specs.declared.access.Access.{Access}
use Rattle.mls_scripts.specs.declared.access.Kind.{Kind}
use Rattle.mls_scripts.specs.declared.access.Kind.TheVariants.{Get, Release, Check}

-- What stands in a line before the mode. (own)
abbrev pub kind_front : Kind → List ℕ
kind_front Get = codes "get-"
kind_front Release = codes "release "
kind_front Check = codes "check "

-- What is asked of a subject, a mode and an object. (own)
abbrev pub ask_for : Kind → ℕ → Mode → ℕ → Ask
ask_for Get s x o = submits s (action.Get x o)
ask_for Release s x o = submits s (action.Release x o)
ask_for Check s x o = ask.Check s o x

-- What is asked about an access. (own)
abbrev pub asked_by : Access → Ask
asked_by a = ask_for a.kind a.subject a.mode a.object
