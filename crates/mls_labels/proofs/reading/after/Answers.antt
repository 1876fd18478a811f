use Rattle.std.proofs.lemmas.Str.Pattern.{strip_prefix_char}
use Rattle.mls_labels.proofs.reading.after.Goals as goal

pub returns : goal.returns
returns c = strip_prefix_char c.args.separator c.args.text.now c.strip_prefix.result c.strip_prefix.ensures.cases c.requires
