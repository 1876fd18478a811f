use Rattle.std.proofs.Common.{refl, ◌∙◌}
use Rattle.mls_snapshots.specs.States.{word_of}
use Rattle.mls_state.specs.Tables.{triples_of}
use Rattle.mls_tables.specs.declared.limits.TheConstants.{MAX_OBJECTS}
use Rattle.mls_shared_rows.specs.StateRows.{cells_bytes}
use Rattle.mls_shared_rows.proofs.States.{begins, grows_in, table_none, table_more}
use Rattle.mls_shared_rows.proofs.triples.with_table.Goals as goal

pub loop-s-init : goal.loop-s-init
loop-s-init c = (refl, begins _ _ (table_none _ _ _ _))

pub loop-s-preserved : goal.loop-s-preserved
loop-s-preserved c = (
  c.in_ok-written.ensures.form ∙ c.loop-s.invariant.0,
  grows_in (λ form. cells_bytes form (word_of c.args.table) c.args.names.now (triples_of c.args.table c.args.state.now) c.loop-s.s MAX_OBJECTS)
      _ _ _ _ _ _ _ c.loop-s.invariant.0 c.loop-s.invariant.1 c.in_ok-written.ensures.bytes (table_more _ _ _ _ _),
)
