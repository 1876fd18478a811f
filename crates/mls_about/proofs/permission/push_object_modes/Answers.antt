use Rattle.std.proofs.Common.{◌∙◌}
use Rattle.std.specs.FinSet as set
use Rattle.mls_tables.specs.declared.mode.Mode.TheVariants.{Execute, Read, Append, Write}
use Rattle.mls_about.proofs.Texts.{four_pushed}
use Rattle.mls_about.proofs.permission.push_object_modes.Goals as goal

pub returns-clause-triples : goal.returns-clause-triples
returns-clause-triples c =
    four_pushed (set.contains c.args.state.now.matrix) _ _ _ _ _ _ _ _ _ _ _ _ _
    (c.has.ensures ∙ c.modes-modes.ensures Execute) (c.has-2.ensures ∙ c.modes-modes.ensures Read)
    (c.has-3.ensures ∙ c.modes-modes.ensures Append) (c.has-4.ensures ∙ c.modes-modes.ensures Write)
    c.in_ok-push_mode.ensures.triples c.in_ok-push_mode-2.ensures.triples c.in_ok-push_mode-3.ensures.triples
    c.in_ok-push_mode-4.ensures.triples
