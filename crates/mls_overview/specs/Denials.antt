-- Denied entries, by subject, object and reason.
use Rattle.std.specs.Prelude.{◌≡◌, ℕ, ◌+◌, ◌*◌, List, [], ◌∷◌, Option, Some, None, length}
use Rattle.std.specs.List.{All, flat_map, slice_get, sum_by}
use Rattle.mls_groups.specs.Groups.{times}
use Rattle.mls_groups.specs.declared.grouping.Group.{Group}
use Rattle.mls_requests.specs.ReasonWords.{reason_place}
use Rattle.mls_requests.specs.declared.action.Action.{Action}
use Rattle.mls_requests.specs.declared.action.Action.TheVariants.{Get, Release, Give, Rescind, Create, Delete}
use Rattle.mls_requests.specs.declared.action.Action.TheVariants.{SubjectLevel, ObjectLevel}
use Rattle.mls_requests.specs.declared.entry.Entry.{Entry}
use Rattle.mls_requests.specs.declared.reason.Reason.{Reason}
use Rattle.mls_requests.specs.declared.reply.Reply.{Reply}
use Rattle.mls_requests.specs.declared.reply.Reply.TheVariants as reply
use Rattle.mls_overview.specs.declared.denial.Denial.{Denial}

-- The object that an action is about: of a creation the parent, of a change of one's own level none. (own)
abbrev pub about : Action → Option ℕ
about (Get x o) = Some o
about (Release x o) = Some o
about (Give x s o) = Some o
about (Rescind x s o) = Some o
about (Create o l i) = Some o
about (Delete o) = Some o
about (SubjectLevel l) = None
about (ObjectLevel o l) = Some o

-- The number of an object, or of none: each has its own. (own)
abbrev pub object_key : Option ℕ → ℕ
object_key None = 0
object_key (Some o) = o + 1

-- The number of a subject, an object and a reason: each three have their own, where subjects and objects are numbers of
-- 16 bits. (own)
abbrev pub cause_key : ℕ → Option ℕ → Reason → ℕ
cause_key s o reason = (s * 131072 + object_key o) * 16 + reason_place reason

-- The number of an entry's subject, object and reason, where it was denied. (own)
abbrev pub key_where : ℕ → Action → Reply → List ℕ
key_where s a reply.Yes = []
key_where s a (reply.Created o) = []
key_where s a (reply.No reason) = cause_key s (about a) reason ∷ []
key_where s a reply.Undefined = []

-- The same of an entry. (own)
abbrev pub key_denied : Entry → List ℕ
key_denied e = key_where e.request.subject e.request.action e.reply

-- The numbers of the denied ones of some entries. (own)
abbrev pub keys_denied : List Entry → List ℕ
keys_denied entries = flat_map key_denied entries

-- What a group of keys says, and what a group of denied entries: the key, and how many they are. (own)
abbrev pub said_by : Group → ℕ × ℕ
said_by g = (g.key, g.count)

abbrev pub said_of : Denial → ℕ × ℕ
said_of d = (d.key, d.count)

-- The number of the entry at a place, where one is there that was denied. (own)
abbrev pub key_found : Option Entry → List ℕ
key_found None = []
key_found (Some e) = key_denied e

-- The last entry of a group is one of it. (own)
pub record IsOf (entries : List Entry) (d : Denial) : Type 0 where
  pub key_is : key_found (slice_get entries d.last) ≡ d.key ∷ []

-- Groups have the denied ones of some entries: each counts those of its subject, object and reason, and together they
-- count all; and the entry that each names as its last is one of them. (own)
pub record IsGrouped (entries : List Entry) (found : List Denial) : Type 0 where
  pub each : All (λ d. d.count ≡ times d.key (keys_denied entries)) found
  pub whole : sum_by (λ d. d.count) found ≡ length (keys_denied entries)
  pub last : All (IsOf entries) found
