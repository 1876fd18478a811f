use Rattle.std.specs.Prelude.{◌≡◌, drop}
use Rattle.std.specs.List.{list_all}
use Rattle.mls_could.specs.Actors.{names_known}
use Rattle.mls_could.proofs.actors.are_known.Given as goal

-- it depends on what is left
abbrev pub invariant-loop-word : goal.invariant-loop-word
invariant-loop-word l =
    list_all (λ word. names_known l.names l.state word.now) l.words ≡ list_all (λ word. names_known l.names l.state word.now) (drop l.word-index l.words)
