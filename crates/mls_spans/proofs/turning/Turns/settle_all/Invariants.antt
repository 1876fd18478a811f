use Rattle.std.proofs.Common.{◌≡◌, ◌<◌, length, nat_lt}
use Rattle.mls_tables.specs.Triples.{Triple}
use Rattle.mls_tables.specs.declared.limits.TheConstants.{MAX_SUBJECTS}
use Rattle.mls_spans.specs.Turning.{kept, settled_where}
use Rattle.mls_spans.proofs.turning.Turns.settle_all.Given as goal

-- the subjects so far were looked at
abbrev pub invariant-loop-s : goal.invariant-loop-s
invariant-loop-s l = record {
  object : l.self.object ≡ l.initial.self.object;
  subjects : length l.self.modes.items ≡ length l.initial.self.modes.items;
  each : (t : Triple) → t.1 ≡ l.initial.self.object → t.0 < MAX_SUBJECTS
      → kept l.self t ≡ settled_where (nat_lt t.0 l.s) l.state l.number t (kept l.initial.self t);
}
