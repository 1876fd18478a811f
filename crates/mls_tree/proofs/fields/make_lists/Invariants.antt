use Rattle.std.proofs.Common.{◌≡◌, ℕ, ◌≤◌, [], length, get_or}
use Rattle.mls_tree.proofs.fields.make_lists.Given as goal

abbrev pub invariant-loop-i : goal.invariant-loop-i
invariant-loop-i g l = record {
  room : l.i ≤ length l.lists.lists;
  longer : length l.initial.lists.lists ≤ length l.lists.lists;
  same : (q : ℕ) → get_or l.lists.lists q [] ≡ get_or l.initial.lists.lists q [];
}
