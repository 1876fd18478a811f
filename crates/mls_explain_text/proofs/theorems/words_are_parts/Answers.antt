use Rattle.mls_explain_text.proofs.PartsLaw.{parts_are}
use Rattle.mls_explain_text.proofs.theorems.words_are_parts.Goals as goal

pub returns : goal.returns
returns c = parts_are
