-- What is kept of the uses of permissions, and what an entry makes of it.
use Rattle.std.specs.Prelude.{◌≡◌, ℕ, ◌+◌, ◌*◌, ◌<◌, Bool, false, ◌&&◌, ◌||◌, List, [], ◌∷◌, map, filter, Option}
use Rattle.std.specs.Prelude.{Some, None, is_some, if◌then◌else◌}
use Rattle.std.specs.BTreeMap.{get}
use Rattle.std.specs.Ordering.{nat_cmp}
use Rattle.mls_requests.specs.declared.action.Action.{Action}
use Rattle.mls_requests.specs.declared.action.Action.TheVariants.{Get, Release, Give, Rescind, Create, Delete}
use Rattle.mls_requests.specs.declared.action.Action.TheVariants.{SubjectLevel, ObjectLevel}
use Rattle.mls_requests.specs.declared.entry.Entry.{Entry}
use Rattle.mls_rules.specs.Rules.{reply}
use Rattle.mls_state.specs.State.{State}
use Rattle.mls_tables.specs.Mode.{mode_number}
use Rattle.mls_tables.specs.Triples.{Triple, is_triple}
use Rattle.mls_spans.specs.Sweeping.{is_granted}
use Rattle.mls_spans.specs.Uses.{is_permitted, is_permission, uses_of, usage_by}
use Rattle.mls_spans.specs.declared.tally.Tally.{Tally}
use Rattle.mls_spans.specs.declared.usage.Usage.{Usage}
use Rattle.mls_spans.specs.declared.uses.Uses.{Uses}

-- The number of an access: each has its own, where objects are below 65,536. (own)
abbrev pub key_of : Triple → ℕ
key_of t = t.0 * 262144 + t.1 * 4 + mode_number t.2

-- What is kept of an access, where something is. (own)
abbrev pub kept : Tally → Triple → Option Uses
kept m t = get nat_cmp m.uses (key_of t)

-- No uses. (own)
abbrev pub no_uses : Uses
no_uses = record { granted = 0; denied = 0; last = None }

-- The uses that are kept, where something is, and else none. (own)
abbrev pub told_of : Option Uses → Uses
told_of None = no_uses
told_of (Some uses) = uses

-- One use more, by the entry of a number. (own)
abbrev pub with_use : Uses → Bool → ℕ → Uses
with_use u granted number = record {
  granted = if granted then u.granted + 1 else u.granted;
  denied = if granted then u.denied else u.denied + 1;
  last = Some number;
}

-- The access that an action of a subject is the get of, where a state permits it. (own)
abbrev pub asked_in : State → ℕ → Action → Option Triple
asked_in v s (Get x o) = if is_permitted v (s, o, x) then Some (s, o, x) else None
asked_in v s (Release x o) = None
asked_in v s (Give x t o) = None
asked_in v s (Rescind x t o) = None
asked_in v s (Create p l i) = None
asked_in v s (Delete o) = None
asked_in v s (SubjectLevel l) = None
asked_in v s (ObjectLevel o l) = None

-- The access that an action is to permit. (own)
abbrev pub given_by : Action → Option Triple
given_by (Get x o) = None
given_by (Release x o) = None
given_by (Give x t o) = Some (t, o, x)
given_by (Rescind x t o) = None
given_by (Create p l i) = None
given_by (Delete o) = None
given_by (SubjectLevel l) = None
given_by (ObjectLevel o l) = None

-- An access is the one that is asked for, where one is. (own)
abbrev pub is_asked : Option Triple → Triple → Bool
is_asked None t = false
is_asked (Some a) t = is_triple t a

-- An access is the one that is given, where one is, and a state permits that. (own)
abbrev pub is_given : State → Option Triple → Triple → Bool
is_given w None t = false
is_given w (Some a) t = is_permitted w a && is_triple t a

-- What is kept of an access once one is asked for. (own)
abbrev pub with_asked : Option Triple → Bool → ℕ → Triple → Option Uses → Option Uses
with_asked asked granted number t known =
    if is_asked asked t then Some (with_use (told_of known) granted number) else known

-- What is kept of an access once one is given. (own)
abbrev pub with_given : State → Option Triple → Triple → Option Uses → Option Uses
with_given w given t known = if is_given w given t then Some (told_of known) else known

-- What is kept of an access once an entry was answered in a state and has led to another. (own)
abbrev pub followed : State → State → Entry → Triple → Option Uses → Option Uses
followed v w e t known =
    with_given w (given_by e.request.action) t
    (with_asked (asked_in v e.request.subject e.request.action) (is_granted (reply v e.request)) e.number t known)

-- Of each access just its uses are kept over entries from a state, and something of each permission that the state
-- doesn't have already, and of no other access than a permission. (own)
pub record IsTally (v : State) (entries : List Entry) (m : Tally) : Type 0 where
  pub uses : (t : Triple) → t.1 < 65536 → told_of (kept m t) ≡ uses_of v entries t
  pub there : (t : Triple) → t.1 < 65536 → (is_permitted v t || is_some (kept m t)) ≡ is_permission v entries t

-- An access is a permission by what is kept: the first state permits it, or something is kept of it. (own)
abbrev pub is_there : State → Tally → Triple → Bool
is_there v m t = is_permitted v t || is_some (kept m t)

-- The usage of a permission by what is kept. (own)
abbrev pub usage_told : State → Tally → Triple → Usage
usage_told v m t = usage_by v t (told_of (kept m t))

-- The usage of an access by what is kept, where it is a permission. (own)
abbrev pub usage_where : State → Tally → Triple → List Usage
usage_where v m t = if is_there v m t then usage_told v m t ∷ [] else []

-- The usages of those of some accesses that are permissions, by what is kept. (own)
abbrev pub usages_told : State → Tally → List Triple → List Usage
usages_told v m ts = map (usage_told v m) (filter (is_there v m) ts)
