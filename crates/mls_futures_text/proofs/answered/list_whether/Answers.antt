use Rattle.std.proofs.Common.{◌≡◌, true}
use Rattle.mls_futures.specs.Closure.{acts_in}
use Rattle.mls_futures_text.proofs.Rows.{told_open, told_never}
use Rattle.mls_futures_text.proofs.answered.list_whether.Goals as goal

pub returns-then-is_open : goal.returns-then-is_open
returns-then-is_open c =
    told_open c.args.names.now c.args.state.now (acts_in c.args.actors.now) c.args.access.now c.args.form c.script_rows.result c.script_rows.ensures.rows c.script_rows.ensures.positive

pub never_rows-requires-clause-never : goal.never_rows-requires-clause-never
never_rows-requires-clause-never c = λ could. let is : c.is_open.result ≡ true = c.is_open.ensures.is.1 could in let is_not = c.if-is_open.false in cc

pub returns : goal.returns
returns c =
    told_never c.args.names.now c.args.state.now (acts_in c.args.actors.now) c.args.access.now c.args.form c.never_rows.result c.never_rows.ensures.rows c.never_rows.ensures.positive
