use Rattle.std.proofs.Common.{◌++◌, ◌∷◌}
use Rattle.mls_monitor.specs.Journal.{fold}
use Rattle.mls_laws.proofs.Rescinded.{stays_out, asks_in_vain}
use Rattle.mls_laws.proofs.accesses.rescinding_is_final.Goals as goal

pub returns : goal.returns
returns c = record {
  permission = λ v front rest e s o x legal is grants never. (stays_out v front rest e s o x legal is grants never).0;
  access = λ v front rest e s o x legal is grants never. (stays_out v front rest e s o x legal is grants never).1;
  denied = λ v front rest e s o x legal is grants never. asks_in_vain (fold v (front ++ e ∷ rest)) s o x ((stays_out v front rest e s o x legal is grants never).0);
}
