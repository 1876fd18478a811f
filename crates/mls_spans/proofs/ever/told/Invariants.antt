use Rattle.std.proofs.Common.{◌≡◌, take}
use Rattle.std.specs.List.{flat_map, list_any}
use Rattle.mls_rows.specs.Rows.{bytes_of, form_of}
use Rattle.mls_rows.specs.Times.{rows_lent}
use Rattle.mls_spans.specs.EverLines.{ever_row}
use Rattle.mls_spans.specs.Turning.{found_seen}
use Rattle.mls_spans.specs.Windows.{is_any}
use Rattle.mls_spans.proofs.ever.told.Given as goal

-- the accesses so far, in the form that is asked for
abbrev pub invariant-loop-access : goal.invariant-loop-access
invariant-loop-access l = record {
  form : form_of l.output ≡ l.fn.form;
  bytes : bytes_of l.output
      ≡ flat_map (λ t. ever_row l.fn.form l.names (rows_lent l.marks) t (found_seen l.turns l.states t)) (take l.access-index l.accesses);
  positive : l.is_positive ≡ list_any (λ t. is_any (found_seen l.turns l.states t)) (take l.access-index l.accesses);
}
