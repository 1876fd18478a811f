use Rattle.std.proofs.Common.{ap, ◌∙◌, Ok, Err}
use Rattle.mls_labels.specs.Reading.{label_at}
use Rattle.mls_labels.proofs.LabelReads.{says_ok, says_err, ok_within, read_is, is_read}
use Rattle.mls_labels.proofs.SchemeFacts.{sound}
use Rattle.mls_labels.proofs.scheme.Scheme.read.Goals as goal

pub returns-clause-ok : goal.returns-clause-ok
returns-clause-ok g c =
    let is = c.read_label.ensures ∙ ap (λ s. label_at s c.args.text.now) c.self.view_is in
    let facts = sound c.args.self.now c.bounds.ensures.sound in
    says_ok c.args.self.now c.args.text.now c.read_label.result (rw is (read_is c.args.self.now c.args.text.now (facts.levels_once, facts.categories_once)))

pub returns-clause-only : goal.returns-clause-only
returns-clause-only g c =
    let is = c.read_label.ensures ∙ ap (λ s. label_at s c.args.text.now) c.self.view_is in
    let facts = sound c.args.self.now c.bounds.ensures.sound in
    λ label spells. is ∙ is_read c.args.self.now c.args.text.now (Ok label) (facts.levels_once, facts.categories_once) spells

pub returns-clause-err : goal.returns-clause-err
returns-clause-err g c =
    let is = c.read_label.ensures ∙ ap (λ s. label_at s c.args.text.now) c.self.view_is in
    let facts = sound c.args.self.now c.bounds.ensures.sound in
    says_err c.args.self.now c.args.text.now c.read_label.result (rw is (read_is c.args.self.now c.args.text.now (facts.levels_once, facts.categories_once)))

pub returns-clause-exact : goal.returns-clause-exact
returns-clause-exact g c =
    let is = c.read_label.ensures ∙ ap (λ s. label_at s c.args.text.now) c.self.view_is in
    let facts = sound c.args.self.now c.bounds.ensures.sound in
    λ fault refused. is ∙ is_read c.args.self.now c.args.text.now (Err fault) (facts.levels_once, facts.categories_once) refused

pub returns-clause-within : goal.returns-clause-within
returns-clause-within g c =
    let is = c.read_label.ensures ∙ ap (λ s. label_at s c.args.text.now) c.self.view_is in
    let facts = sound c.args.self.now c.bounds.ensures.sound in
    ok_within c.args.self.now c.args.text.now c.read_label.result (rw is (read_is c.args.self.now c.args.text.now (facts.levels_once, facts.categories_once)))

pub returns-clause-steps : goal.returns-clause-steps
returns-clause-steps g c = c.read_label.ensures ∙ ap (λ s. label_at s c.args.text.now) c.self.view_is
