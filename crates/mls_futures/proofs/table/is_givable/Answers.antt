use Rattle.std.proofs.Common.{◌≡◌, ◌↔◌, true, subst}
use Rattle.mls_futures.specs.Closure.{acts_in, CouldGive}
use Rattle.mls_futures.proofs.table.is_givable.Goals as goal

pub returns-then-is_active : goal.returns-then-is_active
returns-then-is_active g c active =
    subst (λ k. (c.could_give_above.result ≡ true) ↔ CouldGive c.args.state.now (acts_in c.args.actors.now) k) c.new-o.ensures c.could_give_above.ensures
