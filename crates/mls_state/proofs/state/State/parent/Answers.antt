use Rattle.std.proofs.Common.{◌≡◌, ℕ, Option, Some, None, sym}
use Rattle.std.specs.Prelude.{IfSome, IsTrue}
use Rattle.std.specs.FinMap as map
use Rattle.mls_state.specs.State.{State, is_active}
use Rattle.mls_state.specs.Properties.{HasTree}
use Rattle.mls_state.specs.StateView.{state_of}
use Rattle.mls_state.proofs.Tables.{has_tree}
use Rattle.mls_state.proofs.state.State.parent.Goals as goal

-- a parent is active
active : (v : State) → HasTree v → (o : ℕ) (e : Option ℕ) → e ≡ map.get v.parent o → IfSome e (λ p. IsTrue (is_active v p))
active v h o None is = tt
active v h o (Some p) is = (h.objects.children_active o p (sym is)).1

pub returns-clause-active : goal.returns-clause-active
returns-clause-active g c =
    rw (← c.self.view_is) (active (state_of c.self.inside) (has_tree c.self.inside c.self.invariant) c.args.o c.parent.result c.parent.ensures)
