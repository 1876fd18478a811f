use Rattle.std.proofs.Common.{length}
use denote.Shadow.{shadow}
use denote.Text.{Utf8}
use Rattle.mls_snapshots.specs.Gathering.{said_by}
use Rattle.mls_snapshots.proofs.Gathering.{Lines}
use Rattle.mls_snapshots.proofs.state_rows.StateRows.add_lines.Given as goal

-- the rows that are left
abbrev pub invariant-loop-line : goal.invariant-loop-line
invariant-loop-line l = Lines l.names l.fn.text (said_by l.initial.self) l.rest (said_by l.self) × shadow (Utf8 l.rest)

abbrev pub decreases-loop-line : goal.decreases-loop-line
decreases-loop-line l = length l.rest
