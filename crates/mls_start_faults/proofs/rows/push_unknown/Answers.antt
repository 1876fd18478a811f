use Rattle.std.proofs.Common.{[], ◌∷◌, ◌++◌, codes, ap, sym, ◌∙◌}
use Rattle.std.specs.Prelude.{if◌then◌else◌}
use Rattle.mls_start_faults.proofs.Repeated.{pushed_as}
use Rattle.mls_start_faults.specs.Places.{key, located, part_steps}
use Rattle.mls_start_faults.proofs.rows.push_unknown.Goals as goal

pub returns-else-is_among : goal.returns-else-is_among
returns-else-is_among c =
    pushed_as c.push_place.result _ _ _ _ _ c.member.ensures
    (sym (ap (λ b. if b then [] else located (part_steps c.args.part ++ key c.args.member.now ∷ [], codes "unknown member")) (sym c.is_among.ensures ∙ c.if-is_among.false)))
    c.push_place.ensures
