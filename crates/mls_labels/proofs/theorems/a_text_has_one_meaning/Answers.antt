use Rattle.mls_labels.specs.Scheme.{Scheme, IsScheme}
use Rattle.mls_labels.proofs.LabelReads.{NamesOnce, one_label, one_fault, label_or_fault}
use Rattle.mls_labels.proofs.SchemeFacts.{sound}
use Rattle.mls_labels.proofs.theorems.a_text_has_one_meaning.Goals as goal

names_once : (s : Scheme) → IsScheme s → NamesOnce s
names_once s is = let facts = sound s is in (facts.levels_once, facts.categories_once)

pub returns : goal.returns
returns c = record {
  label = λ s text a b is. one_label s text a b (names_once s is);
  fault = λ s text f g is. one_fault s text f g (names_once s is);
  either = λ s text a f is. label_or_fault s text a f (names_once s is);
}
