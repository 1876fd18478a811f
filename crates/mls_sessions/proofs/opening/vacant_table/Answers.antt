use Rattle.std.proofs.Common.{ℕ, ◌+◌, ap, sym, ◌∙◌}
use Rattle.std.specs.Prelude.{replicate}
use Rattle.mls_sessions.specs.declared.limits.TheConstants.{FIRST}
use Rattle.mls_sessions.proofs.StepsKeep.{starts_with}
use Rattle.mls_sessions.proofs.opening.vacant_table.Goals as goal

pub vacant-requires : goal.vacant-requires
vacant-requires c = let laid = c.in_ok-words.ensures.items_if_clones_equal (λ y h. h) in
    starts_with c.args.charter.now _ (c.deref.ensures.value ∙ laid ∙ ap (λ (n : ℕ). replicate (n + FIRST) 0) (sym c.requires))
