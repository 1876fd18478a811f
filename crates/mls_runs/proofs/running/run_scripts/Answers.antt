use Rattle.std.proofs.Common.{refl, ◌∙◌, arith}
use Rattle.mls_runs.proofs.Runs.{ran_none, ran_more}
use Rattle.mls_runs.proofs.running.run_scripts.Goals as goal

pub loop-script-init : goal.loop-script-init
loop-script-init c = (refl, ran_none (λ s. s.now) _ _ _ _ c.args.scripts.now)

pub loop-script-preserved : goal.loop-script-preserved
loop-script-preserved c = (
  c.in_ok-run_script.ensures.forgotten ∙ c.loop-script.invariant.0,
  ran_more (λ s. s.now) _ _ _ _ _ _ _ _ _ _ c.args.scripts.now c.loop-script.script-index _ _ _ c.loop-script.invariant.1 (omega (arith, c.loop-script-test.true))
      c.in_ok-run_script.ensures.start c.in_ok-run_script.ensures.entries c.in_ok-run_script.ensures.output c.saturating_add-session.ensures,
)
