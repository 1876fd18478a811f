use Rattle.std.proofs.Common.{◌≡◌, ℕ, [], cond, eqb, length, take, get_or}
use Rattle.std.specs.List.{list_any}
use Rattle.mls_tree.proofs.fields.clear_each.Given as goal

abbrev pub invariant-loop-o : goal.invariant-loop-o
invariant-loop-o g l =
    record {
      many : length l.lists.lists ≡ length l.initial.lists.lists;
      cleared : (q : ℕ) → get_or l.lists.lists q [] ≡ cond (list_any (eqb q) (take l.o-index l.group)) [] (get_or l.initial.lists.lists q []);
    }
