use Rattle.std.proofs.Common.{◌≡◌, ◌++◌}
use Rattle.mls_differences.specs.Singles.{names_rows}
use Rattle.mls_differences.specs.declared.single.Kind.TheVariants.{Object}
use Rattle.mls_differences.proofs.only.push_objects.Given as goal

-- the rows of the names so far are there
abbrev pub invariant-loop-n : goal.invariant-loop-n
invariant-loop-n l = l.rows.items ≡ l.fn.rows.items ++ names_rows l.side Object l.names.objects l.others.objects l.n
