-- What is opened.
use Rattle.std.specs.Prelude.{◌≡◌, ℕ, List, [], Option, Some}
use Rattle.std.proofs.Common.{ap, ◌∙◌}
use Rattle.mls_start_file.specs.Says.{SaysStart}
use Rattle.mls_start_file.specs.Ties.{Loaded}
use Rattle.mls_c.specs.Faults.{Opens}
use Rattle.mls_c.specs.Opened.{Opened, opened_with}

-- what a start file says is opened
pub says_opens : (bytes : List ℕ) (loaded : Loaded) (new : Option Opened) (o : Opened) → SaysStart bytes loaded → o ≡ opened_with loaded [] → new ≡ Some o → Opens bytes new
says_opens bytes loaded new o says same is = record { loaded = loaded; says = says; holds = is ∙ ap (λ p. Some p) same }

-- a handle that holds what was opened
pub holds_opened : (bytes : List ℕ) (new : Option Opened) (o : Opened) → Opens bytes (Some o) → new ≡ Some o → Opens bytes new
holds_opened bytes new o opens is = record { loaded = opens.loaded; says = opens.says; holds = is ∙ opens.holds }
