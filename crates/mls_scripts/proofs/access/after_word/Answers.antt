use Rattle.std.proofs.lemmas.Bool.Decides.{Decides-eqb}
use Rattle.std.proofs.lemmas.Slice.Eq.{strip_prefix_is}
use Rattle.mls_scripts.proofs.Accesses.{some_of}
use Rattle.mls_scripts.proofs.access.after_word.Goals as goal

pub returns : goal.returns
returns c = some_of _ _ c.strip_prefix.result (strip_prefix_is Decides-eqb c.args.text.now c.args.word.now c.strip_prefix.result c.strip_prefix.ensures.cases)
