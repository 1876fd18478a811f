-- Which current accesses an entry may change.
use Rattle.std.specs.Prelude.{ℕ, Bool, true, false}
use Rattle.mls_tables.specs.Triples.{Triple, is_triple}
use Rattle.mls_requests.specs.declared.action.Action.{Action}
use Rattle.mls_requests.specs.declared.action.Action.TheVariants.{Get, Release, Give, Rescind, Create, Delete}
use Rattle.mls_requests.specs.declared.action.Action.TheVariants.{SubjectLevel, ObjectLevel}
use Rattle.mls_requests.specs.declared.reply.Reply.{Reply}
use Rattle.mls_requests.specs.declared.reply.Reply.TheVariants.{Yes, Created, No, Undefined}
use Rattle.mls_requests.specs.declared.entry.Entry.{Entry}
use Rattle.mls_sessions.specs.declared.touch.Touch.{Touch}
use Rattle.mls_sessions.specs.declared.touch.Touch.TheVariants.{Nothing, One, Many}

-- What an action of a subject may change of the current accesses: get, release and rescind the triple that they name, a
-- deletion all those of the deleted objects, the others nothing. (own)
abbrev pub touch_asked : ℕ → Action → Touch
touch_asked s (Get x o) = One s o x
touch_asked s (Release x o) = One s o x
touch_asked s (Give x t o) = Nothing
touch_asked s (Rescind x t o) = One t o x
touch_asked s (Create p l i) = Nothing
touch_asked s (Delete o) = Many
touch_asked s (SubjectLevel l) = Nothing
touch_asked s (ObjectLevel o l) = Nothing

-- What an entry may change of them: what its action may, where that was granted. (own)
abbrev pub touch_by : Reply → Touch → Touch
touch_by Yes touch = touch
touch_by (Created o) touch = touch
touch_by (No reason) touch = Nothing
touch_by Undefined touch = Nothing

-- What an entry may change of the current accesses. (own)
abbrev pub touch_of : Entry → Touch
touch_of e = touch_by e.reply (touch_asked e.request.subject e.request.action)

-- Whether an action that is granted makes the triple that it names a current access: a get does. (own)
abbrev pub makes_access : Action → Bool
makes_access (Get x o) = true
makes_access (Release x o) = false
makes_access (Give x t o) = false
makes_access (Rescind x t o) = false
makes_access (Create p l i) = false
makes_access (Delete o) = false
makes_access (SubjectLevel l) = false
makes_access (ObjectLevel o l) = false

-- Whether a triple is among them. (own)
abbrev pub may_change : Touch → Triple → Bool
may_change Nothing t = false
may_change (One s o x) t = is_triple t (s, o, x)
may_change Many t = true
