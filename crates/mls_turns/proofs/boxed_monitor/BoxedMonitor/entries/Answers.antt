use Rattle.std.proofs.Common.{subst}
use Rattle.mls_monitor.specs.Journal.{Monitor, IsLegal}
use Rattle.mls_turns.specs.Journals.{Journal, Stands}
use Rattle.mls_turns.proofs.boxed_monitor.BoxedMonitor.entries.Goals as goal

pub returns-clause-legal : goal.returns-clause-legal
returns-clause-legal c = subst (λ (j : Journal). Stands j.start j.entries) c.self.view_is (record { legal = subst (λ (m : Monitor). IsLegal m.start m.entries) c.deref.ensures c.entries.ensures.legal })
