use Rattle.std.proofs.Common.{◌≤◌, length}
use Rattle.std.specs.Prelude.{map}
use Rattle.mls_page.specs.Runs.{IsCut}
use Rattle.mls_page.proofs.cutting.cut.Given as goal

-- the rows so far are cut
abbrev pub invariant-loop-place : goal.invariant-loop-place
invariant-loop-place g l = record {
  before : l.begin ≤ l.place;
  within : l.place ≤ length l.rows;
  cut : IsCut g.C.Column.number_of l.rows l.begin l.place (map (λ run. run.now) l.found.items);
}
