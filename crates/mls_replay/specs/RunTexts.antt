-- What a run prints around the answers of its scripts.
use Rattle.std.specs.Prelude.{ℕ, List, [], ◌∷◌, ◌++◌, codes}
use Rattle.std.specs.Fmt.{decimal}

-- The line that a script's answers stand under. (own)
abbrev pub heading : ℕ → List ℕ
heading session = codes "session " ++ decimal session ++ 10 ∷ []

-- How a command says that a monitor stands at its end: how many entries it has, and that its state is secure. (own)
abbrev pub ending : ℕ → List ℕ
ending count = codes "entries " ++ decimal count ++ codes "\nsecure yes\n"
