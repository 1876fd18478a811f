use Rattle.mls_requests.proofs.ReplyTexts.{one_text}
use Rattle.mls_requests.proofs.theorems.replies_have_their_texts.Goals as goal

pub returns : goal.returns
returns c = one_text
