use Rattle.std.proofs.Common.{subst, Ok, Err}
use Rattle.mls_labels.specs.Scheme.{Scheme, IsScheme}
use Rattle.mls_labels.proofs.LabelReads.{NamesOnce, Says, read_is, is_read}
use Rattle.mls_labels.proofs.SchemeFacts.{sound}
use Rattle.mls_labels.proofs.theorems.a_text_is_read_as_it_is_spelled.Goals as goal

names_once : (s : Scheme) → IsScheme s → NamesOnce s
names_once s is = let facts = sound s is in (facts.levels_once, facts.categories_once)

pub returns : goal.returns
returns c = record {
  label = λ s text l is. (λ e. subst (Says s text) e (read_is s text (names_once s is)), is_read s text (Ok l) (names_once s is));
  fault = λ s text f is. (λ e. subst (Says s text) e (read_is s text (names_once s is)), is_read s text (Err f) (names_once s is));
}
