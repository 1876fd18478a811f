use Rattle.std.proofs.Common.{◌≡◌, ℕ, suc, ◌+◌, true, subst, arith}
use Rattle.mls_state.specs.State.{is_active}
use Rattle.mls_tables.specs.declared.limits.TheConstants.{MAX_OBJECTS}
use Rattle.mls_tree.specs.Tree.{reaches_within}
use Rattle.mls_snapshots.proofs.Rebuilt.{at_root, step_up, closed, reached}
use Rattle.mls_snapshots.proofs.rebuilding.place_all.Goals as goal

pub loop-n-init : goal.loop-n-init
loop-n-init c = record {
  part = λ v said part. part;
  steps = λ v said part. at_root v c.args.state.now part.root;
}

pub loop-n-preserved : goal.loop-n-preserved
loop-n-preserved c =
    let so_far = c.loop-n.invariant in
    let n : ℕ = c.loop-n._n in
    let new = c.add_each.new.state in
    let one : suc n ≡ n + 1 = omega arith in
    record {
      part = λ v said part. c.in_ok-added.ensures.part v said (so_far.part v said part);
      steps = λ v said part.
          subst (λ k. (o : ℕ) → reaches_within v.parent k o 0 ≡ true → is_active new o ≡ true) one
          (step_up v c.loop-n.state new n (c.in_ok-added.ensures.part v said (so_far.part v said part)).root
          (c.in_ok-added.ensures.there v said) (so_far.steps v said part));
    }

pub returns-then-not-added-clause-all : goal.returns-then-not-added-clause-all
returns-then-not-added-clause-all c v said part o active =
    let new = c.add_each.new.state in
    let same : new ≡ c.loop-n.state = c.in_ok-added.ensures.same c.if-not-added.true in
    closed v new (c.in_ok-added.ensures.part v said (c.loop-n.invariant.part v said part)).root
    (λ q p at is. c.in_ok-added.ensures.there v said q p at (subst (λ w. is_active w p ≡ true) same is)) MAX_OBJECTS o (reached v said.tree o active)

pub returns-clause-all : goal.returns-clause-all
returns-clause-all c v said part o active =
    let all : c.loop-n._n ≡ MAX_OBJECTS = omega arith in
    subst (λ k. (q : ℕ) → reaches_within v.parent k q 0 ≡ true → is_active c.loop-n.state q ≡ true) all (c.loop-n.invariant.steps v said part) o
    (reached v said.tree o active)
