use Rattle.std.proofs.Common.{string_bytes}
use Rattle.mls_answers.specs.Starts.{RefusesStart}
use Rattle.mls_snapshots.specs.Starts.{IsStartBy}
use Rattle.mls_answers.proofs.Seen.{seen_ok, seen_err}
use Rattle.mls_answers.proofs.started.start_file.Goals as goal

pub returns-clause-ok : goal.returns-clause-ok
returns-clause-ok c =
    seen_ok c.args.seen.now c.names.ensures.sees (λ r answer. IsStartBy r.names r.state answer.order.items (string_bytes answer.text)) c.start_seen.result c.start_seen.ensures.ok

pub returns-clause-fault : goal.returns-clause-fault
returns-clause-fault c = seen_err c.args.seen.now c.names.ensures.sees (λ r fault. RefusesStart r.names r.state fault) c.start_seen.result c.start_seen.ensures.fault
