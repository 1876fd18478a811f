-- What a line of the program asks, and what it finds next in a script.
use Rattle.std.specs.Prelude.{ℕ, List, [], Some, None, option_map}
use Rattle.mls_lines.specs.Names.{Names}
use Rattle.mls_scripts.specs.declared.answer.Answer.TheVariants as answer
use Rattle.mls_scripts.specs.declared.halves.Asking.{Asking as Line}
use Rattle.mls_scripts.specs.declared.looking.Next.{Next}
use Rattle.mls_scripts.specs.declared.looking.Next.TheVariants.{End, Fault, Asks}
use Rattle.mls_scripts.specs.Halves.{Asking, Halt, halt_by, next_of}
use Rattle.mls_scripts.specs.Script.{answer_bytes}

-- What a line of the program asks, with the name of its variable where it binds one. (own)
abbrev pub asking : Line → Asking
asking q = (option_map (λ name. name.now) q.bind, q.ask)

-- Where a script halts in which this stands next, and these lines after it. (own)
abbrev pub halt_at : Names → List (List ℕ × ℕ) → Next → List (List ℕ) → Halt
halt_at names vars End lines = record { text = []; asks = None; rest = lines }
halt_at names vars (Fault fault) lines =
    halt_by None (answer_bytes (answer.Fault fault)) lines (next_of names vars lines)
halt_at names vars (Asks q) lines = record { text = []; asks = Some (asking q); rest = lines }
