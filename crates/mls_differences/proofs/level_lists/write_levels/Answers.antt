use Rattle.std.proofs.Common.{◌∙◌, ap, map, string_bytes, subst}
use Rattle.mls_rows.specs.Members.{Adds}
use Rattle.mls_differences.specs.ChangeForms.{levels_members}
use Rattle.mls_differences.specs.Sides.{area_word, levels_of}
use Rattle.mls_differences.proofs.level_lists.write_levels.Goals as goal

pub returns : goal.returns
returns c =
    subst (λ ls. Adds c.write_lists-written.result c.args.writer.now c.write_lists-written.new.writer
    (levels_members (area_word c.args.area) ls (levels_of c.args.names.1.now c.args.area)))
    (ap (map string_bytes) c.deref.ensures.value ∙ c.in_ok-levels.ensures)
    (subst (λ os. Adds c.write_lists-written.result c.args.writer.now c.write_lists-written.new.writer
    (levels_members (area_word c.args.area) (map string_bytes c.deref.result.now) os))
    (ap (map string_bytes) c.deref-2.ensures.value ∙ c.in_ok-others.ensures) c.write_lists-written.ensures)
