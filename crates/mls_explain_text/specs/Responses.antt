-- What a question is answered.
use Rattle.std.specs.Prelude.{ℕ, Bool, true, false, List, ◌++◌, codes, if◌then◌else◌}
use Rattle.std.specs.FinSet as set
use Rattle.mls_requests.specs.ReplyWords.{reply_text}
use Rattle.mls_requests.specs.declared.ask.Ask.{Ask}
use Rattle.mls_requests.specs.declared.ask.Ask.TheVariants.{Submit, Check}
use Rattle.mls_requests.specs.declared.reply.Reply.{Reply}
use Rattle.mls_requests.specs.declared.reply.Reply.TheVariants.{Yes, Created, No, Undefined}
use Rattle.mls_state.specs.State.{State}
use Rattle.mls_rules.specs.Rules.{reply}
use Rattle.mls_explain_text.specs.declared.response.Response.{Response}
use Rattle.mls_explain_text.specs.declared.response.Response.TheVariants.{Replied, Held}

-- Whether a reply grants. (MTR-2997, decision yes)
abbrev pub is_granted : Reply → Bool
is_granted Yes = true
is_granted (Created o) = true
is_granted (No reason) = false
is_granted Undefined = false

-- The answer to what a line asks in a state: the reply that the rules give, or whether the access is held. (own)
abbrev pub response_to : State → Ask → Response
response_to v (Submit r) = Replied (reply v r)
response_to v (Check s o x) = Held (set.contains v.accesses (s, o, x))

-- Whether an answer is a positive one. (own)
abbrev pub is_positive : Response → Bool
is_positive (Replied r) = is_granted r
is_positive (Held held) = held

-- The text that tells whether an access is held. (own)
abbrev pub held_text : Bool → List ℕ
held_text held = if held then codes "held" else codes "not held"

-- The text of an answer. (own)
abbrev pub response_text : Response → List ℕ
response_text (Replied r) = reply_text r
response_text (Held held) = held_text held

-- The line of an answer. (own)
abbrev pub response_line : Response → List ℕ
response_line response = response_text response ++ codes "\n"
