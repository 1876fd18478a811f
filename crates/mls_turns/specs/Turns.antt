-- What a feed gives in one turn.
use Rattle.std.specs.Prelude.{List, [], ◌∷◌}
use Rattle.mls_requests.specs.declared.ask.Ask.{Ask}
use Rattle.mls_turns.specs.declared.given.Given.{Given}
use Rattle.mls_turns.specs.declared.given.Given.TheVariants.{Nothing, One, Several}

-- What a feed gave in one turn: one ask alone, or what stands in a list. (own)
abbrev pub asks_given : Given → List Ask → List Ask
asks_given Nothing asks = []
asks_given (One a) asks = a ∷ []
asks_given Several asks = asks
