use Rattle.std.proofs.Common.{string_bytes, map}
use Rattle.std.specs.Prelude.{option_map}
use Rattle.mls_runs.proofs.Threads.{run_says, run_refuses}
use Rattle.mls_runs.proofs.threading.run_threads.Goals as goal

pub returns : goal.returns
returns g c = record {
  ok = run_says c.run_start-run.result (λ run. run.output.items) (λ run. option_map (λ text. string_bytes text) run.journal) c.args.start.now c.into_parts-names.result.0
      (map (λ script. script.now) c.args.scripts.now) c.args.journal c.into_parts-names.result.1 c.in_ok-read_start.field-0 c.in_ok-read_start.ensures.ok c.into_parts-names.ensures.names
      c.into_parts-names.ensures.start c.run_start-run.ensures.ok;
  fault = run_refuses c.run_start-run.result c.args.start.now c.run_start-run.ensures.fault;
}
