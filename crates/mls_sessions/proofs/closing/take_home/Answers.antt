use Rattle.std.proofs.Common.{arith, ◌≡◌, Some, sym, ap, ◌∙◌, subst}
use mathlib.Core.Option.{some, some-injective}
use lib.ListN.{get_elem?}
use Rattle.std.specs.Prelude.{is_some}
use Rattle.std.specs.Option.{unwrap_or}
use Rattle.std.proofs.lemmas.Grind.{common_steps}
use Rattle.std.specs.Slots.{slots_items}
use Rattle.mls_turns.specs.Journals.{Journal}
use Rattle.mls_sessions.specs.Sessions.{office_at, Leaves}
use Rattle.mls_sessions.proofs.SeatsKeep.{leaves}
use Rattle.mls_sessions.proofs.closing.take_home.Goals as goal
use Rattle.mls_sessions.proofs.closing.take_home.Goals.{After-free}

-- what stands in the slot of the closed table
found : (c : After-free) → (m : Journal) × (get_elem? (slots_items c.close_with-closed.result.slots) 0 ≡ some (Some m)) × Leaves (office_at c.args.table.shared.table_id c.args.table.shared.key) c.args.sessions.items m
found c = leaves (office_at c.args.table.shared.table_id c.args.table.shared.key) c.args.sessions.items c.requires.office c.requires.all.0 c.gather-seat.result.id c.gather-seat.result.me.0 (ap (λ m. m.0) c.gather-seat.ensures.1) _ _ c.close_with-closed.ensures.values.2

pub unreachable-requires : goal.unreachable-requires
unreachable-requires c = let t = found c.before in let two = ap is_some (some-injective _ _ (sym t.1 ∙ c.in-None.ensures.value)) in grind (arith, common_steps)

pub returns : goal.returns
returns c = let t = found c.before in let same = ap (λ o. unwrap_or o t.0) (some-injective _ _ (sym t.1 ∙ c.in-Some.ensures.value)) in subst (Leaves (office_at c.args.table.shared.table_id c.args.table.shared.key) c.args.sessions.items) same t.2
