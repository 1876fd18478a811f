use Rattle.mls_wording.proofs.LabelNumbers.{labels_apart}
use Rattle.mls_wording.proofs.theorems.labels_have_their_texts.Goals as goal

pub returns : goal.returns
returns c = labels_apart c.a_written_label_is_spelled.ensures c.a_text_has_one_meaning.ensures.label c.entries_have_their_texts.ensures.apart
