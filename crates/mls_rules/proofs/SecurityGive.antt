-- To give and to rescind leaves a secure state secure.
use Rattle.std.proofs.Common.{ℕ}
use Rattle.mls_tables.specs.declared.mode.Mode.{Mode}
use Rattle.mls_requests.specs.declared.action.Action.TheVariants.{Give, Rescind}
use Rattle.mls_state.specs.State.{State}
use Rattle.mls_state.specs.Properties.{IsSecure, HasTree, simple_holds, star_holds, integrity_holds}
use Rattle.mls_rules.specs.Rules.{change}
use Rattle.mls_state.proofs.Laws.{Each-remove, within-insert, within-remove}

-- to give permits no less
pub give_secure : (v : State) (s : ℕ) (x : Mode) (t o : ℕ) → IsSecure v → HasTree (change v s (Give x t o))
    → IsSecure (change v s (Give x t o))
give_secure v s x t o h tree = record {
  simple = h.simple;
  star = h.star;
  discretionary = within-insert v.accesses v.matrix (t, o, x) h.discretionary;
  compatible = h.compatible;
  tree = tree;
  integrity = h.integrity;
  ceiling = h.ceiling;
}

-- to rescind ends the access with the permission
pub rescind_secure : (v : State) (s : ℕ) (x : Mode) (t o : ℕ) → IsSecure v → HasTree (change v s (Rescind x t o))
    → IsSecure (change v s (Rescind x t o))
rescind_secure v s x t o h tree = record {
  simple = Each-remove v.accesses (t, o, x) (simple_holds v) h.simple;
  star = Each-remove v.accesses (t, o, x) (star_holds v) h.star;
  discretionary = within-remove v.accesses v.matrix (t, o, x) h.discretionary;
  compatible = h.compatible;
  tree = tree;
  integrity = Each-remove v.accesses (t, o, x) (integrity_holds v) h.integrity;
  ceiling = h.ceiling;
}
