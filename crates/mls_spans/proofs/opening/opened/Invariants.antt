use Rattle.std.proofs.Common.{◌≡◌, [], map, None}
use Rattle.mls_tables.specs.Once.{by_subject}
use Rattle.mls_spans.specs.Spans.{span_from}
use Rattle.mls_spans.proofs.opening.opened.Given as goal

-- the spans of the subjects so far
abbrev pub invariant-loop-s : goal.invariant-loop-s
invariant-loop-s l = l.spans.items ≡ map (span_from None l.state []) (by_subject l.state.accesses l.s)
