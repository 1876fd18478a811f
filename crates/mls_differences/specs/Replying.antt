-- Whether replies agree, and how two that don't are told.
use Rattle.std.specs.Prelude.{ℕ, Bool, true, false, List, [], ◌∷◌, ◌++◌, codes}
use Rattle.std.specs.Str.{bytes_eq}
use Rattle.json.specs.Token.{Token, key}
use Rattle.mls_requests.specs.ReasonWords.{reason_word}
use Rattle.mls_requests.specs.ReplyWords.{reply_text, reply_word, word_of_reply}
use Rattle.mls_requests.specs.declared.reply.Reply.{Reply}
use Rattle.mls_requests.specs.declared.reply.Reply.TheVariants.{Yes, Created, No, Undefined}
use Rattle.mls_rows.specs.Members.{number_member, object_of, text_member}

-- Whether two replies agree: they are equal, but for the numbers of objects that were made. (own)
abbrev pub agree : Reply → Reply → Bool
agree Yes Yes = true
agree Yes (Created p) = false
agree Yes (No b) = false
agree Yes Undefined = false
agree (Created o) Yes = false
agree (Created o) (Created p) = true
agree (Created o) (No b) = false
agree (Created o) Undefined = false
agree (No a) Yes = false
agree (No a) (Created p) = false
agree (No a) (No b) = bytes_eq (reason_word a) (reason_word b)
agree (No a) Undefined = false
agree Undefined Yes = false
agree Undefined (Created p) = false
agree Undefined (No b) = false
agree Undefined Undefined = true

-- What follows a request in a line: both replies, the first start's first. (own)
abbrev pub replies_text : Reply → Reply → List ℕ
replies_text a b = codes ": " ++ reply_text a ++ codes " > " ++ reply_text b ++ 10 ∷ []

-- What a reply tells besides its word: the number of the object that was made, or the reason of a denial. (own)
abbrev pub told_members : Reply → List Token
told_members Yes = []
told_members (Created o) = number_member (codes "created") o
told_members (No reason) = text_member (codes "reason") (reason_word reason)
told_members Undefined = []

-- The members of a reply. (own)
abbrev pub reply_members : Reply → List Token
reply_members r = text_member (codes "reply") (reply_word (word_of_reply r)) ++ told_members r

-- A member that is a reply. (own)
abbrev pub reply_member : List ℕ → Reply → List Token
reply_member at r = key at ∷ object_of (reply_members r)

-- Two members that are replies. (own)
abbrev pub both_replies : List ℕ → List ℕ → Reply → Reply → List Token
both_replies at behind a b = reply_member at a ++ reply_member behind b

-- Both replies, the first start's first. (own)
abbrev pub replies_members : Reply → Reply → List Token
replies_members a b = both_replies (codes "first") (codes "second") a b
