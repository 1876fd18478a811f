use Rattle.std.proofs.Common.{◌≡◌}
use Rattle.mls_answers.specs.States.{state_bytes}
use Rattle.mls_answers.proofs.Seen.{seen_ok}
use Rattle.mls_answers.proofs.listed.state.Goals as goal

pub returns-clause-bytes : goal.returns-clause-bytes
returns-clause-bytes c =
    seen_ok c.args.seen.now c.names.ensures.sees (λ r answer. answer.bytes.items ≡ state_bytes c.args.form r.names r.state) c.list.result c.list.ensures.bytes
