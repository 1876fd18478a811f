use Rattle.std.proofs.Common.{◌≡◌, ℕ, [], length, filter, take, get_or}
use Rattle.mls_tree.specs.Kept.{stays_listed}
use Rattle.mls_tree.proofs.fields.discard_each.Given as goal

abbrev pub invariant-loop-o : goal.invariant-loop-o
invariant-loop-o g l =
    record {
      many : length l.lists.lists ≡ length l.initial.lists.lists;
      left : (q : ℕ) → get_or l.lists.lists q [] ≡ filter (stays_listed l.parents (take l.o-index l.group) q) (get_or l.initial.lists.lists q []);
    }
