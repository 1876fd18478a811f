use Rattle.std.proofs.Common.{ap, ◌∙◌, get_or}
use Rattle.mls_state.proofs.Tables.{label_place, security-at, integrity-at}
use Rattle.mls_state.proofs.state.State.labels.Goals as goal

pub index-requires : goal.index-requires
index-requires g c = rw (c.number.ensures, c.self.inside.objects.ok.0) (label_place c.self.inside c.self.invariant c.args.o (rw (← c.self.view_is) at c.requires))

pub returns-clause-security : goal.returns-clause-security
returns-clause-security g c =
    let is = c.index.ensures ∙ ap (λ n. get_or c.self.inside.objects.items n c.index.result.now) c.number.ensures in
    rw (← c.self.view_is) (security-at c.self.inside c.self.invariant c.args.o c.index.result.now (rw (← c.self.view_is) at c.requires) is)

pub returns-clause-integrity : goal.returns-clause-integrity
returns-clause-integrity g c =
    let is = c.index.ensures ∙ ap (λ n. get_or c.self.inside.objects.items n c.index.result.now) c.number.ensures in
    rw (← c.self.view_is) (integrity-at c.self.inside c.self.invariant c.args.o c.index.result.now (rw (← c.self.view_is) at c.requires) is)
