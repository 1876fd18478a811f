use Rattle.std.proofs.Common.{◌≡◌, ap, ◌∙◌, sym, arith}
use Rattle.std.proofs.lemmas.Bool.Decides.{nat_tests}
use Rattle.mls_tables.specs.ModeBits.{modes_of}
use Rattle.mls_tables.proofs.ModeBits.{modes_of-none, none_of-modes_of}
use Rattle.mls_tables.proofs.modes.Modes.is_empty.Goals as goal

pub returns : goal.returns
returns c =
    (λ zero. let none : c.self.inside.bits ≡ 0 = grind (arith, nat_tests, zero) in sym c.self.view_is ∙ ap modes_of none ∙ modes_of-none, λ empty. let none : c.self.inside.bits ≡ 0 = none_of-modes_of c.self.inside.bits c.self.invariant (c.self.view_is ∙ empty) in grind (arith, nat_tests, none))
