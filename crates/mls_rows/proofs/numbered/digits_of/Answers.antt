use Rattle.std.proofs.Common.{lit<}
use Rattle.std.proofs.lemmas.Str.Pattern.{strip_prefix_char}
use Rattle.mls_rows.proofs.Digits.{behind_is}
use Rattle.mls_rows.proofs.numbered.digits_of.Goals as goal

pub returns : goal.returns
returns c =
    behind_is c.args.word.now c.strip_prefix.result
    (strip_prefix_char 35 c.args.word.now c.strip_prefix.result c.strip_prefix.ensures.cases (lit< tt))
