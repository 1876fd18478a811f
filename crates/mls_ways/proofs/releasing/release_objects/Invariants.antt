use Rattle.std.proofs.Common.{◌≡◌, ℕ, true, take}
use Rattle.std.specs.Prelude.{◌==◌}
use Rattle.std.specs.List.{list_any}
use Rattle.mls_ways.specs.Releases.{IsFree, Releases}
use Rattle.mls_ways.proofs.releasing.release_objects.Given as goal

-- what is held of the objects so far is released
abbrev pub invariant-loop-o : goal.invariant-loop-o
invariant-loop-o l = record {
  releases : Releases l.fn.state l.state l.fn.script.items l.script.items;
  free : (k : ℕ) → list_any (λ a. k == a) (take l.o-index l.objects) ≡ true → IsFree l.state l.s k;
}
