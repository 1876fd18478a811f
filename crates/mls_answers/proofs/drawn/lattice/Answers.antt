use Rattle.std.proofs.Common.{◌≡◌}
use Rattle.mls_review.specs.Drawing.{drawing}
use Rattle.mls_answers.proofs.Seen.{seen_ok}
use Rattle.mls_answers.proofs.drawn.lattice.Goals as goal

pub returns-clause-bytes : goal.returns-clause-bytes
returns-clause-bytes c =
    seen_ok c.args.seen.now c.names.ensures.sees (λ r answer. answer.bytes.items ≡ drawing r.names r.state) c.draw.result c.draw.ensures.bytes
