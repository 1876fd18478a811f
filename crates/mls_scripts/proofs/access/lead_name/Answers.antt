use Rattle.std.proofs.Common.{length, arith, ◌∙◌}
use Rattle.std.proofs.lemmas.Slice.{between_to_end}
use Rattle.mls_scripts.proofs.Accesses.{space_leads}
use Rattle.mls_scripts.proofs.access.lead_name.Goals as goal

pub returns-clause-text : goal.returns-clause-text
returns-clause-text c =
    let found = c.in_ok-end.ensures in
    let back = c.split_at.result.1.now in
    space_leads c.args.text.now _ back _ c.in_ok-end.end found.within found.space (c.in_ok-name.ensures.text ∙ c.split_at.ensures.front) c.split_at.ensures.back
    (between_to_end back 1 (length back) (omega arith))
