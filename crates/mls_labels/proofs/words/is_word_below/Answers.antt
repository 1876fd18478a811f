use Rattle.std.proofs.Common.{sym}
use Rattle.mls_labels.proofs.CategoryWords.{no_bits}
use Rattle.mls_labels.proofs.words.is_word_below.Goals as goal

pub returns-then-word-eq0 : goal.returns-then-word-eq0
returns-then-word-eq0 c = sym (no_bits c.args.word c.args.count c.if-word-eq0.true)
