-- The members of the row of an answer to a request or a check.
use Rattle.std.specs.Prelude.{Bool, List, [], ◌∷◌, ◌++◌, codes}
use Rattle.json.specs.Token.{Token, boolean, key}
use Rattle.mls_requests.specs.ReasonWords.{reason_word}
use Rattle.mls_requests.specs.ReplyWords.{reply_word, word_of_reply}
use Rattle.mls_requests.specs.declared.reply.Reply.{Reply}
use Rattle.mls_requests.specs.declared.reply.Reply.TheVariants.{Yes, Created, No, Undefined}
use Rattle.mls_rows.specs.Members.{number_member, text_member}
use Rattle.mls_explain_text.specs.declared.response.Response.{Response}
use Rattle.mls_explain_text.specs.declared.response.Response.TheVariants.{Replied, Held}

-- What a reply says behind its first word: the object that was made, or the reason of a denial. (own)
abbrev pub behind_members : Reply → List Token
behind_members Yes = []
behind_members (Created o) = number_member (codes "created") o
behind_members (No reason) = text_member (codes "reason") (reason_word reason)
behind_members Undefined = []

-- A reply: its first word, and what it says behind it. (own)
abbrev pub reply_members : Reply → List Token
reply_members r = text_member (codes "reply") (reply_word (word_of_reply r)) ++ behind_members r

-- Whether an access is held. (own)
abbrev pub held_member : Bool → List Token
held_member held = key (codes "held") ∷ boolean held ∷ []

-- An answer: a reply, or whether an access is held. (own)
abbrev pub response_members : Response → List Token
response_members (Replied r) = reply_members r
response_members (Held held) = held_member held
