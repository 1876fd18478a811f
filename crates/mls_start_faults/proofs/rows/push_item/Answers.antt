use Rattle.std.proofs.Common.{[], ◌∷◌, ◌++◌, codes, ap, sym, ◌∙◌}
use Rattle.std.specs.Prelude.{if◌then◌else◌}
use Rattle.mls_start_faults.proofs.Repeated.{pushed_as}
use Rattle.mls_start_faults.specs.Places.{key, number, located, part_steps}
use Rattle.mls_start_faults.proofs.rows.push_item.Goals as goal

pub returns-else-is_string : goal.returns-else-is_string
returns-else-is_string c =
    pushed_as c.push_place.result _ _ _ _ _ c.item.ensures
    (sym (ap (λ b. if b then [] else located (part_steps c.args.part ++ key c.args.member.now ∷ number c.args.k ∷ [], codes "not a string")) (sym c.is_string.ensures ∙ c.if-is_string.false)))
    c.push_place.ensures
