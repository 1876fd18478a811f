use Rattle.std.proofs.Common.{◌≡◌, ℕ, ◌==◌, List, true, false, length, take, get_or}
use Rattle.std.specs.List.{list_any}
use Rattle.mls_tables.specs.Rows.{TakenOut}
use Rattle.mls_tables.proofs.runs.take_from_each.Given as goal

-- the run is out of the lists of the subjects that are marked, and each subject that was read is
abbrev pub invariant-loop-s : goal.invariant-loop-s
invariant-loop-s g l = record {
  many : length l.objects.lists ≡ length l.initial.objects.lists;
  marks : length l.marked ≡ length l.initial.marked;
  kept : (a : ℕ) → get_or l.initial.marked a false ≡ true → get_or l.marked a false ≡ true;
  all : (a : ℕ) → list_any (λ s. a == s) (take l.s-index l.holders) ≡ true → get_or l.marked a false ≡ true;
  taken : (before : List (List ℕ)) → TakenOut l.initial.marked l.first l.end before l.initial.objects.lists → TakenOut l.marked l.first l.end before l.objects.lists;
}
