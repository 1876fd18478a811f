use Rattle.std.proofs.Common.{◌≡◌, ℕ, ◌==◌, ◌<◌, ◌≤◌, [], true, false, length, get_or}
use Rattle.std.specs.List.{list_any}
use Rattle.mls_tables.specs.Rows.{TakenOut}
use Rattle.mls_tables.proofs.runs.take_from_holders.Given as goal

-- the run is out of the lists of the subjects that are marked, and each holder of an object that was read is
abbrev pub invariant-loop-o : goal.invariant-loop-o
invariant-loop-o g l = record {
  many : length l.objects.lists ≡ length l.initial.objects.lists;
  marks : length l.marked ≡ 256;
  all : (b a : ℕ) → l.first ≤ b → b < l.o → list_any (λ s. a == s) (get_or l.subjects.lists b []) ≡ true → get_or l.marked a false ≡ true;
  taken : TakenOut l.marked l.first l.end l.initial.objects.lists l.objects.lists;
}
