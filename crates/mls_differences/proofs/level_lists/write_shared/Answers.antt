use Rattle.std.proofs.Common.{map, string_bytes, subst}
use Rattle.mls_rows.specs.Members.{Adds}
use Rattle.mls_differences.proofs.NameLists.{common_strings}
use Rattle.mls_differences.proofs.level_lists.write_shared.Goals as goal

pub returns : goal.returns
returns c =
    subst (λ ts. Adds c.write_names.result c.args.writer.now c.write_names.new.writer ts)
    (common_strings string_bytes (map string_bytes c.args.others.now) c.args.names.now) c.write_names.ensures
