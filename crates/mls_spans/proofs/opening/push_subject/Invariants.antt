use Rattle.std.proofs.Common.{◌≡◌, ◌++◌, [], map, take, None}
use Rattle.std.specs.List.{flat_map}
use Rattle.mls_tables.specs.Once.{accesses_at}
use Rattle.mls_spans.specs.Spans.{span_from}
use Rattle.mls_spans.proofs.opening.push_subject.Given as goal

-- the spans of the objects so far
abbrev pub invariant-loop-o : goal.invariant-loop-o
invariant-loop-o l =
    l.spans.items
    ≡ l.fn.spans.items ++ map (span_from None l.state []) (flat_map (λ o. accesses_at l.state.accesses l.s o) (take l.o-index l.o-items))
