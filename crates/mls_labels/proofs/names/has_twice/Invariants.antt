use Rattle.std.specs.Prelude.{◌≡◌, map, drop}
use Rattle.mls_labels.specs.Names.{has_twice}
use Rattle.mls_labels.proofs.names.has_twice.Given as goal

-- it depends on what is left
abbrev pub invariant-loop-i : goal.invariant-loop-i
invariant-loop-i l = has_twice (map (λ text. text.now) l.texts) ≡ has_twice (map (λ text. text.now) (drop l.i l.texts))
