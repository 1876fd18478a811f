use Rattle.std.proofs.Common.{rules, ◌≡◌, false, refl, ◌∙◌}
use Rattle.mls_snapshots.specs.States.{word_of}
use Rattle.mls_state.specs.State.{is_subject}
use Rattle.mls_state.specs.Tables.{triples_of}
use Rattle.mls_shared_rows.specs.StateRows.{cell_bytes}
use Rattle.mls_shared_rows.proofs.States.{begins, grows_in, cells_none, cells_more, cells_unknown}
use Rattle.mls_shared_rows.proofs.triples.with_row.Goals as goal

pub loop-o-init : goal.loop-o-init
loop-o-init c = (refl, begins _ _ (cells_none _ _ _ _ _))

pub loop-o-preserved : goal.loop-o-preserved
loop-o-preserved c = (
  c.in_ok-written.ensures.form ∙ c.loop-o.invariant.0,
  grows_in (λ form. cell_bytes form (word_of c.args.table) c.args.names.now (triples_of c.args.table c.args.state.now) c.args.s c.loop-o.o)
      _ _ _ _ _ _ _ c.loop-o.invariant.0 c.loop-o.invariant.1 c.in_ok-written.ensures.bytes (cells_more _ _ _ _ _ _),
)

pub returns-then-not-is_subject-clause-bytes : goal.returns-then-not-is_subject-clause-bytes
returns-then-not-is_subject-clause-bytes c =
    let unknown : is_subject c.args.state.now c.args.s ≡ false = search rules in
    begins _ _ (cells_unknown _ _ _ c.args.table c.args.state.now c.args.s _ c.agrees.ensures.tree unknown)
