use Rattle.std.proofs.Common.{◌≡◌, ◌+◌, suc, arith}
use Rattle.mls_tables.proofs.lists.Lists.leave.Goals as goal

pub returns-in-Ok : goal.returns-in-Ok
returns-in-Ok g c =
    let next : c.in-Ok.k + 1 ≡ suc c.in-Ok.k = omega arith in
    rw c.in-Ok.is (rw next at c.cut.ensures)
