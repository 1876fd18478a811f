use Rattle.mls_laws.proofs.Replied.{says_yes, says_created, says_no, says_undefined}
use Rattle.mls_laws.proofs.examples.each_reply_is_given.Goals as goal

pub returns : goal.returns
returns c = record { yields = says_yes; created = says_created; denied = says_no; undefined = says_undefined }
