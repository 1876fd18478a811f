use Rattle.mls_tables.proofs.TakenRuns.{Unlisted-run}
use Rattle.mls_tables.proofs.index.Index.unlink_run.Goals as goal

pub returns-clause-gone : goal.returns-clause-gone
returns-clause-gone g c = Unlisted-run c.args.first c.args.end c.args.self.now.objects.lists c.args.self.now.subjects.lists c.take_from_holders.new.objects.lists c.clear_run.new.subjects.lists c.take_from_holders.ensures.taken c.clear_run.ensures.cleared
