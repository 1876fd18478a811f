use Rattle.std.proofs.Common.{string_bytes, map}
use Rattle.mls_runs.proofs.Runs.{runs_over}
use Rattle.mls_runs.proofs.running.run_serial.Goals as goal

pub returns-clause-ok : goal.returns-clause-ok
returns-clause-ok c =
    runs_over c.args.start.now (map (λ script. script.now) c.args.scripts.now) c.args.journal c.in_ok-read_start.field-0 c.into_parts-names.result.0 c.into_parts-names.result.1
    c.in_ok-run.field-0.output.items c.in_ok-run.field-0.journal (λ text. string_bytes text) c.in_ok-read_start.ensures.ok c.into_parts-names.ensures.names
    c.into_parts-names.ensures.start c.in_ok-run.ensures.output c.in_ok-run.ensures.journal c.in_ok-run.ensures.asked
