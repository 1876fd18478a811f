use Rattle.std.proofs.Common.{◌∙◌}
use Rattle.std.specs.FinSet as set
use Rattle.mls_tables.specs.declared.mode.Mode.TheVariants.{Execute, Read, Append, Write}
use Rattle.mls_state.specs.Tables.{triples_of}
use Rattle.mls_snapshots.specs.States.{word_of}
use Rattle.mls_shared_rows.specs.StateRows.{triple_bytes}
use Rattle.mls_shared_rows.proofs.States.{four_added}
use Rattle.mls_shared_rows.proofs.triples.with_cell.Goals as goal

pub returns-clause-bytes : goal.returns-clause-bytes
returns-clause-bytes c =
    four_added (λ form. triple_bytes form (word_of c.args.table) c.args.names.now) (set.contains (triples_of c.args.table c.args.state.now)) _ _ _ _ _ _ _ _ _ _ _ _ _ _ _ _ _
    (c.has-execute.ensures ∙ c.modes-modes.ensures Execute) (c.has-read.ensures ∙ c.modes-modes.ensures Read) (c.has-append.ensures ∙ c.modes-modes.ensures Append)
    (c.has-write.ensures ∙ c.modes-modes.ensures Write) c.in_ok-output.ensures.form c.in_ok-output-2.ensures.form c.in_ok-output-3.ensures.form
    c.in_ok-output.ensures.bytes c.in_ok-output-2.ensures.bytes c.in_ok-output-3.ensures.bytes c.in_ok-output-4.ensures.bytes
