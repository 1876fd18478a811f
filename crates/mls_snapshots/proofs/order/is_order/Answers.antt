use Rattle.mls_snapshots.proofs.order.is_order.Goals as goal

pub returns-then-are_listed : goal.returns-then-are_listed
returns-then-are_listed c = λ placed. record { listed = c.are_listed.ensures c.if-are_listed.true; placed = c.are_placed.ensures placed }
