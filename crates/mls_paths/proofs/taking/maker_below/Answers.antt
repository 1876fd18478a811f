use Rattle.std.proofs.Common.{◌≡◌, true, false, sym, ◌∙◌}
use Rattle.mls_paths.specs.Hands.{acts_of}
use Rattle.mls_paths.proofs.Tables.{below_by, below_unfit}
use Rattle.mls_paths.proofs.taking.maker_below.Goals as goal

pub returns-then-not-is_fit : goal.returns-then-not-is_fit
returns-then-not-is_fit c =
    below_unfit c.args.state.now (acts_of c.args.ground) c.args.t c.args.parent
    (λ fit. let is : c.is_fit.result ≡ true = c.is_fit.ensures.1 fit in let is_not = c.if-not-is_fit.true in cc)

pub returns : goal.returns
returns c =
    below_by c.args.state.now (acts_of c.args.ground) c.args.writers.now c.args.t c.args.parent c.writer_at.result c.agrees.ensures.tree c.requires.writers
    (sym c.is_active.ensures ∙ c.if-not-is_active.false) c.writer_at.ensures (c.is_fit.ensures.0 c.if-not-is_fit.false)
