use Rattle.mls_explain.proofs.LowerLevels.{helps_covers, helps_observes, untrusted_helps}
use Rattle.mls_explain.proofs.helping.least_untrusted.Goals as goal

pub returns-clause-least : goal.returns-clause-least
returns-clause-least g c = λ m few helps.
    let v = c.args.state.now in
    c.covering.ensures.least m
    (c.observed_level-from.ensures.least m (helps_observes v c.args.s c.args.o c.args.x m c.requires.untrusted helps))
    (helps_covers v c.args.s c.args.o c.args.x m c.requires.untrusted helps)

pub returns-clause-helps : goal.returns-clause-helps
returns-clause-helps g c = λ m few helps.
    let v = c.args.state.now in
    let from = c.observed_level-from.ensures.least m (helps_observes v c.args.s c.args.o c.args.x m c.requires.untrusted helps) in
    let covers = helps_covers v c.args.s c.args.o c.args.x m c.requires.untrusted helps in
    untrusted_helps v c.args.s c.args.o c.args.x c.observed_level-from.result c.covering.result c.observed_level-from.ensures.label m
    (c.covering.ensures.least m from covers) (c.covering.ensures.from m few from covers) (c.covering.ensures.covers m few from covers) helps
