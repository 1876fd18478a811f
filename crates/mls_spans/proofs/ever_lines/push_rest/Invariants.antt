use Rattle.std.proofs.Common.{◌≡◌, ◌++◌, take}
use Rattle.std.specs.Prelude.{string_bytes}
use Rattle.std.specs.List.{flat_map}
use Rattle.mls_rows.specs.Times.{rows_lent}
use Rattle.mls_spans.specs.EverLines.{next_text}
use Rattle.mls_spans.proofs.ever_lines.push_rest.Given as goal

-- the text of the spans so far
abbrev pub invariant-loop-window : goal.invariant-loop-window
invariant-loop-window l =
    string_bytes l.text ≡ string_bytes l.fn.text ++ flat_map (next_text (rows_lent l.marks)) (take l.window-index l.windows)
