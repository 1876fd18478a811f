use Rattle.mls_differences.proofs.level_lists.write_both_orders.Goals as goal

pub returns : goal.returns
returns c = c.write_orders.ensures
