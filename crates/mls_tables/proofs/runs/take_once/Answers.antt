use Rattle.std.proofs.Common.{◌≡◌, ◌∙◌}
use Rattle.mls_tables.proofs.TakenRuns.{TakenOut-more}
use Rattle.mls_tables.proofs.runs.take_once.Goals as goal

pub returns-clause-taken : goal.returns-clause-taken
returns-clause-taken g c before taken =
    let row : c.from-row.result ≡ c.args.s = c.from-row.ensures ∙ c.s.view_is in
    rw row (TakenOut-more c.args.marked.now c.args.s c.args.first c.args.end before c.args.objects.now.lists c.take_run.new.objects.lists c.requires.marks taken c.take_run.ensures.taken)
