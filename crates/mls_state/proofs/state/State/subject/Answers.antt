use Rattle.std.proofs.Common.{Some, ap, ◌∙◌, get_or}
use Rattle.mls_facts.proofs.Numbered.{get-numbered-read, contains-passing-read}
use Rattle.mls_state.proofs.Tables.{subject_row}
use Rattle.mls_state.proofs.state.State.subject.Goals as goal

pub index-requires : goal.index-requires
index-requires g c = rw (c.number.ensures, c.self.inside.subjects.ok.0) (subject_row c.self.inside c.args.s (rw (← c.self.view_is) at c.requires))

pub returns-clause-maximum : goal.returns-clause-maximum
returns-clause-maximum g c =
    let within = subject_row c.self.inside c.args.s (rw (← c.self.view_is) at c.requires) in
    let is = c.index.ensures ∙ ap (λ n. get_or c.self.inside.subjects.items n c.index.result.now) c.number.ensures in
    rw (← c.self.view_is) (get-numbered-read (λ s. Some s.maximum) c.self.inside.subjects.items c.args.s c.index.result.now within is)

pub returns-clause-current : goal.returns-clause-current
returns-clause-current g c =
    let within = subject_row c.self.inside c.args.s (rw (← c.self.view_is) at c.requires) in
    let is = c.index.ensures ∙ ap (λ n. get_or c.self.inside.subjects.items n c.index.result.now) c.number.ensures in
    rw (← c.self.view_is) (get-numbered-read (λ s. Some s.current) c.self.inside.subjects.items c.args.s c.index.result.now within is)

pub returns-clause-integrity : goal.returns-clause-integrity
returns-clause-integrity g c =
    let within = subject_row c.self.inside c.args.s (rw (← c.self.view_is) at c.requires) in
    let is = c.index.ensures ∙ ap (λ n. get_or c.self.inside.subjects.items n c.index.result.now) c.number.ensures in
    rw (← c.self.view_is) (get-numbered-read (λ s. Some s.integrity) c.self.inside.subjects.items c.args.s c.index.result.now within is)

pub returns-clause-trusted : goal.returns-clause-trusted
returns-clause-trusted g c =
    let within = subject_row c.self.inside c.args.s (rw (← c.self.view_is) at c.requires) in
    let is = c.index.ensures ∙ ap (λ n. get_or c.self.inside.subjects.items n c.index.result.now) c.number.ensures in
    rw (← c.self.view_is) (contains-passing-read (λ s. s.trusted) c.self.inside.subjects.items c.args.s c.index.result.now within is)
