use Rattle.std.proofs.Common.{◌∙◌, ap, length, take, map, string_bytes, arith}
use Rattle.std.proofs.lemmas.List.{take_all}
use Rattle.mls_snapshots.proofs.SchemeNames.{names_more, few_categories}
use Rattle.mls_snapshots.proofs.scheme_names.category_names.Goals as goal

pub loop-n-preserved : goal.loop-n-preserved
loop-n-preserved c =
    names_more c.args.scheme.now.categories c.loop-n.n (map string_bytes c.loop-n.names.items) (map string_bytes c.push_name.new.names.items)
    _ c.loop-n.invariant c.in_ok-category_name.ensures c.in_ok-push_name.ensures

pub returns : goal.returns
returns c =
    c.loop-n.invariant
    ∙ take_all c.loop-n.n c.args.scheme.now.categories (omega (arith, c.loop-n-test.false, few_categories c.args.scheme.now c.bounds.ensures.sound))
