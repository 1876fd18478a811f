use Rattle.std.proofs.Common.{◌≡◌, ℕ, None, cond, eqb, take, get_or}
use Rattle.std.specs.List.{list_any}
use Rattle.mls_tree.proofs.fields.forget_each.Given as goal

abbrev pub invariant-loop-o : goal.invariant-loop-o
invariant-loop-o l = (q : ℕ) → get_or l.parents q None ≡ cond (list_any (eqb q) (take l.o-index l.group)) None (get_or l.initial.parents q None)
