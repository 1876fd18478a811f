-- The words of replies, and the texts that begin with them.
use Rattle.std.specs.Prelude.{ℕ, ◌<◌, ◌^◌, List, [], ◌∷◌, ◌++◌, codes, Option}
use Rattle.std.specs.Fmt.{decimal}
use Rattle.mls_requests.specs.declared.reply.Reply.{Reply}
use Rattle.mls_requests.specs.declared.reply.Reply.TheVariants as reply
use Rattle.mls_requests.specs.declared.reply_word.ReplyWord.{ReplyWord}
use Rattle.mls_requests.specs.declared.reply_word.ReplyWord.TheVariants.{Yes, Created, No, Undefined}
use Rattle.mls_requests.specs.ReasonWords.{reason_word}
use Rattle.mls_requests.specs.Words.{with_word}

-- Which reply it is, without the object or the reason. (own)
abbrev pub word_of_reply : Reply → ReplyWord
word_of_reply reply.Yes = Yes
word_of_reply (reply.Created o) = Created
word_of_reply (reply.No reason) = No
word_of_reply reply.Undefined = Undefined

-- The first word of a reply's text. (own)
abbrev pub reply_word : ReplyWord → List ℕ
reply_word Yes = codes "yes"
reply_word Created = codes "created"
reply_word No = codes "no"
reply_word Undefined = codes "undefined"

-- All replies, in the order in which a word is looked for. (own)
abbrev pub all_replies : List ReplyWord
all_replies = Yes ∷ Created ∷ No ∷ Undefined ∷ []

-- The reply whose text begins with this word. (own)
abbrev pub read_reply : List ℕ → Option ReplyWord
read_reply token = with_word reply_word all_replies token

-- The text of a reply: its word, and after a space the number of the object that was made, or the reason's word. (own)
abbrev pub reply_text : Reply → List ℕ
reply_text reply.Yes = reply_word Yes
reply_text (reply.Created o) = reply_word Created ++ 32 ∷ decimal o
reply_text (reply.No reason) = reply_word No ++ 32 ∷ reason_word reason
reply_text reply.Undefined = reply_word Undefined

-- A reply whose object, where it tells of one, has a number of 16 bits, as all objects have. (own)
abbrev pub HasNumber : Reply → Type 0
HasNumber reply.Yes = Unit {0}
HasNumber (reply.Created o) = o < 2 ^ 16
HasNumber (reply.No reason) = Unit {0}
HasNumber reply.Undefined = Unit {0}
