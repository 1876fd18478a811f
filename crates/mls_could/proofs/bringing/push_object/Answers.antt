use Rattle.std.proofs.Common.{◌++◌, append-nil, sym, ap, ◌∙◌}
use Rattle.mls_could.proofs.Tested.{object_lacking}
use Rattle.mls_could.proofs.bringing.push_object.Goals as goal

pub returns-else-could_give : goal.returns-else-could_give
returns-else-could_give c = λ test right.
    sym (append-nil c.args.found.now.items)
    ∙ ap (λ t. c.args.found.now.items ++ t)
    (sym (object_lacking c.args.state.now c.args.outset.now c.agrees.ensures.tree c.requires test right c.args.s c.args.o (sym c.could_give.ensures ∙ c.if-could_give.false)))
