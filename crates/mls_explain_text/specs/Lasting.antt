-- The condition that is told of a denied get, by what it would take of the subject.
use Rattle.mls_explain.specs.declared.way.Way.{Way}
use Rattle.mls_explain.specs.declared.way.Way.TheVariants.{Level, Released, Never}
use Rattle.mls_requests.specs.declared.reason.Reason.{Reason}
use Rattle.mls_requests.specs.declared.reason.Reason.TheVariants.{Discretionary, Simple, Star, Integrity, Authority}
use Rattle.mls_requests.specs.declared.reason.Reason.TheVariants.{Compatibility, Ceiling, Root, Full}
use Rattle.mls_requests.specs.declared.reply.Reply.{Reply}
use Rattle.mls_requests.specs.declared.reply.Reply.TheVariants.{Yes, Created, No, Undefined}

-- The condition that fails whatever the subject releases and at whatever level it works, of a get that is never
-- granted: the first that fails, but in place of star, which some level mends, integrity. (own, after MTR-3153's strict
-- integrity)
abbrev pub lasting : Reason → Reason
lasting Discretionary = Discretionary
lasting Simple = Simple
lasting Star = Integrity
lasting Integrity = Integrity
lasting Authority = Authority
lasting Compatibility = Compatibility
lasting Ceiling = Ceiling
lasting Root = Root
lasting Full = Full

-- The condition that is told of a denied get: the first that fails, or of one that is never granted the one that always
-- fails. (own)
abbrev pub told_reason : Reason → Way → Reason
told_reason reason (Level l) = reason
told_reason reason (Released l) = reason
told_reason reason Never = lasting reason

-- The reply to a get with the condition that is told of it. (own)
abbrev pub told_reply : Reply → Way → Reply
told_reply Yes way = Yes
told_reply (Created o) way = Created o
told_reply (No reason) way = No (told_reason reason way)
told_reply Undefined way = Undefined
