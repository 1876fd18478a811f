use Rattle.std.proofs.Common.{◌≡◌, ℕ, [], cond, length, get_or}
use Rattle.mls_tables.specs.Rows.{is_in_run}
use Rattle.mls_tables.proofs.runs.clear_run.Given as goal

-- the lists of the objects that were read are empty, and the others are as they were
abbrev pub invariant-loop-o : goal.invariant-loop-o
invariant-loop-o g l = record {
  many : length l.subjects.lists ≡ length l.initial.subjects.lists;
  cleared : (a : ℕ) → get_or l.subjects.lists a [] ≡ cond (is_in_run l.first l.o a) [] (get_or l.initial.subjects.lists a []);
}
