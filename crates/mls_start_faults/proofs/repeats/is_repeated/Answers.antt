use Rattle.std.proofs.Common.{◌∙◌, sym, ap}
use Rattle.json.proofs.Trees.{view-Object}
use Rattle.json.specs.Value.{value_view, members_view}
use Rattle.mls_start_faults.specs.Repeated.{count_of, is_repeated}
use Rattle.std.specs.Prelude.{nat_lt}
use Rattle.mls_start_faults.proofs.repeats.is_repeated.Goals as goal

pub returns-in-Object : goal.returns-in-Object
returns-in-Object c =
    c.is_twice.ensures ∙ ap (λ ms. nat_lt 1 (count_of c.args.key.now (members_view ms))) c.deref.ensures.value
    ∙ ap (is_repeated c.args.key.now) (sym (view-Object c.in-Object.members)) ∙ ap (λ v. is_repeated c.args.key.now (value_view v)) (sym c.in-Object.is)
