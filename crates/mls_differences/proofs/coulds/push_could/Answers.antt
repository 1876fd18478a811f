use Rattle.mls_could.specs.Outsets.{acts_of}
use Rattle.mls_differences.proofs.LoneRows.{on_ok, lone_told}
use Rattle.mls_differences.proofs.coulds.push_could.Goals as goal

pub returns : goal.returns
returns c =
    on_ok c.push_lone.result
    (lone_told c.args.first.0.now c.args.second.0.now (acts_of c.args.first.1.now) (acts_of c.args.second.1.now) c.args.s c.args.o c.args.x c.could-here.result
    c.could-there.result c.args.rows.now.items c.push_lone.new.rows.items c.could-here.ensures c.could-there.ensures) c.push_lone.ensures
