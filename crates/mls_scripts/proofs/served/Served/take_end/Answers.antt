use Rattle.std.proofs.Common.{length, sym, ◌∙◌, subst, ◌<◌}
use Rattle.mls_scripts.proofs.Pieces.{ends_empty, ends_line}
use Rattle.mls_scripts.proofs.served.Served.take_end.Goals as goal

pub returns-in_default-clause-taken : goal.returns-in_default-clause-taken
returns-in_default-clause-taken g c = λ line none is.
    ends_empty _ _ _ _ c.deref.result.now line c.in_default.ensures (c.deref.ensures.value ∙ is)

pub returns-clause-taken : goal.returns-clause-taken
returns-clause-taken g c = λ line none is.
    ends_line _ _ _ _ _ _ _ c.in-Some.line.now line _ _ (subst (λ bytes. 0 < length bytes) (sym c.in-Some.ensures.0) c.in-Some.ensures.1)
    c.reply-outcome.ensures.replied c.settle.ensures.same c.settle.ensures.outcome none (c.in-Some.ensures.0 ∙ c.deref.ensures.value ∙ is)
