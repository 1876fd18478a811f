-- What one start grants and another doesn't.
use Rattle.std.specs.Prelude.{Bool, true, false, not, ◌&&◌}
use Rattle.mls_requests.specs.declared.reply.Reply.{Reply}
use Rattle.mls_requests.specs.declared.reply.Reply.TheVariants.{Yes, Created, No, Undefined}

-- Whether a reply grants. (own)
abbrev pub is_grant : Reply → Bool
is_grant Yes = true
is_grant (Created o) = true
is_grant (No reason) = false
is_grant Undefined = false

-- Whether the first of two replies grants and the second doesn't. (own)
abbrev pub is_broken : Reply → Reply → Bool
is_broken first second = is_grant first && not (is_grant second)

-- Whether a request with these replies of two starts is asked for: each, or only what the second start breaks. (own)
abbrev pub is_wanted : Bool → Reply → Reply → Bool
is_wanted true first second = is_broken first second
is_wanted false first second = true
