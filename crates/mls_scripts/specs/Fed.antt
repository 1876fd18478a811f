-- What a script that is fed asks, is told, and prints.
use Rattle.std.specs.Prelude.{◌≡◌, ℕ, true, false, List, [], ◌∷◌, ◌++◌, Option, Some, None}
use Rattle.mls_requests.specs.declared.ask.Ask.{Ask}
use Rattle.mls_lines.specs.Names.{Names}
use Rattle.mls_monitor.specs.Feeds.{Exchange}
use Rattle.mls_monitor.specs.declared.feed.Answer.{Answer as Told}
use Rattle.mls_scripts.specs.Feed.{ScriptFeed, GoesOn, GoesAhead, Hears}
use Rattle.mls_scripts.specs.Halves.{next_of, heard_by, vars_told}
use Rattle.mls_scripts.specs.Script.{answer_bytes}

-- What a feed gives: the script goes on, unless an allocation failed, which the feed then says ever after. (own)
pub record Gives (old : ScriptFeed) (given : Option Ask) (new : ScriptFeed) : Type 0 where
  pub step : new.failed ≡ false → GoesOn old given new
  pub kept : old.failed ≡ true → new.failed ≡ true
  pub names : new.names ≡ old.names
  pub vars : new.vars ≡ old.vars

-- What a feed gives ahead: the script goes on, and doesn't fail by it. (own)
pub record GivesAhead (old : ScriptFeed) (given : Ask) (new : ScriptFeed) : Type 0 where
  pub step : GoesAhead old given new
  pub failed : new.failed ≡ old.failed
  pub names : new.names ≡ old.names
  pub vars : new.vars ≡ old.vars

-- What a feed makes of an answer: the script hears it, unless an allocation failed, which the feed then says ever
-- after. (own)
pub record Takes (old : ScriptFeed) (answer : Told) (new : ScriptFeed) : Type 0 where
  pub step : new.failed ≡ false → Hears old answer new
  pub kept : old.failed ≡ true → new.failed ≡ true
  pub names : new.names ≡ old.names

-- A script's lines, where these variables are bound, ask this and are told that, one after the other, and ask nothing
-- more; this text is what they print: the answers to what they ask, and to the lines between that ask nothing, in their
-- order. (own)
abbrev pub Prints : Names → List (List ℕ × ℕ) → List (List ℕ) → List Exchange → List ℕ → Type 0
Prints names vars lines [] text = ((next_of names vars lines).asks ≡ None) × (text ≡ (next_of names vars lines).text)
Prints names vars lines (x ∷ xs) text =
    (bind : Option (List ℕ)) × (later : List ℕ) × ((next_of names vars lines).asks ≡ Some (bind, x.0))
    × (text ≡ (next_of names vars lines).text ++ answer_bytes (heard_by x.0 x.1) ++ later)
    × Prints names (vars_told vars bind (heard_by x.0 x.1)) (next_of names vars lines).rest xs later
