use Rattle.std.specs.Prelude.{◌≡◌, drop}
use Rattle.std.specs.List.{list_any}
use Rattle.mls_spans.specs.Asked.{is_asked}
use Rattle.mls_spans.proofs.held.is_any_asked.Given as goal

-- it depends on what is left
abbrev pub invariant-loop-span : goal.invariant-loop-span
invariant-loop-span l = list_any (is_asked l.choice) l.spans ≡ list_any (is_asked l.choice) (drop l.span-index l.spans)
