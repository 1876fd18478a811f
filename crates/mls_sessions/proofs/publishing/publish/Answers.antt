use Rattle.std.proofs.Common.{ℕ, sym, subst, ◌∙◌}
use Rattle.mls_monitor.specs.Journal.{fold}
use Rattle.mls_sessions.specs.Cells.{OfActive}
use Rattle.mls_sessions.specs.Sessions.{notes_of}
use Rattle.mls_sessions.proofs.Handing.{leads_nothing, counts_nothing, counts_many}
use Rattle.mls_sessions.proofs.publishing.publish.Goals as goal

pub count_change-requires-clause-entries : goal.count_change-requires-clause-entries
count_change-requires-clause-entries c =
    counts_nothing c.args.gate.now.key c.args.seat.now.me c.args.entry.now c.args.monitor c.requires.holds c.requires.entry (sym c.in-Nothing.ensures) (sym c.is_change-is_change.ensures ∙ c.if-is_change.true)

pub count_change-requires-in-Many-clause-entries : goal.count_change-requires-in-Many-clause-entries
count_change-requires-in-Many-clause-entries c = let me = c.blank_deleted.new.seat.me in let v = fold c.args.monitor.start c.args.monitor.entries in
    counts_many c.args.gate.now.key c.args.seat.now.me c.args.entry.now c.args.monitor c.requires.holds c.requires.entry (sym c.in-Many.ensures) me c.blank_deleted.ensures.holds c.blank_deleted.ensures.finer
    (subst (λ (n : ℕ). OfActive v (notes_of me.0) n) c.requires.office.2 c.blank_deleted.ensures.rest)

pub returns-else-is_change-clause-leads : goal.returns-else-is_change-clause-leads
returns-else-is_change-clause-leads c =
    leads_nothing c.args.gate.now.key c.args.seat.now.me c.args.entry.now c.args.monitor c.requires.holds c.requires.entry (sym c.in-Nothing.ensures) (sym c.is_change-is_change.ensures ∙ c.if-is_change.false)
