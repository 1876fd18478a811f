use Rattle.std.specs.Prelude.{◌≡◌, drop}
use Rattle.std.specs.List.{list_any}
use Rattle.mls_could.specs.Actors.{names_it}
use Rattle.mls_could.proofs.actors.is_named.Given as goal

-- it depends on what is left
abbrev pub invariant-loop-word : goal.invariant-loop-word
invariant-loop-word l =
    list_any (λ word. names_it l.names l.s word.now) l.words ≡ list_any (λ word. names_it l.names l.s word.now) (drop l.word-index l.words)
