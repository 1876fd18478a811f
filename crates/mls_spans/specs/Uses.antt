-- How permissions are used: the gets of them while they are there.
use Rattle.std.specs.Prelude.{ℕ, Bool, false, not, ◌&&◌, ◌==◌, List, [], ◌∷◌, map, filter, length, Option, Some}
use Rattle.std.specs.Prelude.{None, if◌then◌else◌}
use Rattle.std.specs.FinSet as set
use Rattle.std.specs.List.{list_any, flat_map, range_with_len}
use Rattle.mls_requests.specs.declared.action.Action.{Action}
use Rattle.mls_requests.specs.declared.action.Action.TheVariants.{Get, Release, Give, Rescind, Create, Delete}
use Rattle.mls_requests.specs.declared.action.Action.TheVariants.{SubjectLevel, ObjectLevel}
use Rattle.mls_requests.specs.declared.entry.Entry.{Entry}
use Rattle.mls_rules.specs.Rules.{reply, after}
use Rattle.mls_state.specs.State.{State, is_subject}
use Rattle.mls_tables.specs.Triples.{Triple, is_triple}
use Rattle.mls_tables.specs.declared.limits.TheConstants.{MAX_SUBJECTS, MAX_OBJECTS}
use Rattle.mls_tables.specs.declared.mode.Mode.TheVariants.{Execute, Read, Append, Write}
use Rattle.mls_spans.specs.Spans.{is_held}
use Rattle.mls_spans.specs.Sweeping.{is_granted}
use Rattle.mls_spans.specs.declared.usage.Usage.{Usage}
use Rattle.mls_spans.specs.declared.uses.Uses.{Uses}

-- An access is permitted in a state: the matrix has it. (MTR-2997, the access matrix)
abbrev pub is_permitted : State → Triple → Bool
is_permitted v t = set.contains v.matrix t

-- The states that entries lead through from a state, that one included. (MTR-2997, the system's state sequence)
abbrev pub states_over : State → List Entry → List State
states_over v [] = v ∷ []
states_over v (e ∷ entries) = v ∷ states_over (after v e.request) entries

-- An access is a permission over entries: one of the states that they lead through permits it. (own)
abbrev pub is_permission : State → List Entry → Triple → Bool
is_permission v entries t = list_any (λ w. is_permitted w t) (states_over v entries)

-- The entries, each beside the state that it is asked in. (own)
abbrev pub asked_over : State → List Entry → List (State × Entry)
asked_over v [] = []
asked_over v (e ∷ entries) = (v, e) ∷ asked_over (after v e.request) entries

-- An action of a subject is the get of an access. (own)
abbrev pub is_get : Triple → ℕ → Action → Bool
is_get t s (Get x o) = is_triple t (s, o, x)
is_get t s (Release x o) = false
is_get t s (Give x r o) = false
is_get t s (Rescind x r o) = false
is_get t s (Create p l i) = false
is_get t s (Delete o) = false
is_get t s (SubjectLevel l) = false
is_get t s (ObjectLevel o l) = false

-- An entry uses a permission: it is the get of an access, in a state that permits that. (own)
abbrev pub is_use : Triple → State × Entry → Bool
is_use t a = is_get t a.1.request.subject a.1.request.action && is_permitted a.0 t

-- The uses of a permission, in order. (own)
abbrev pub uses_over : State → List Entry → Triple → List (State × Entry)
uses_over v entries t = filter (is_use t) (asked_over v entries)

-- An entry is granted in the state that it is asked in. (own)
abbrev pub is_grant : State × Entry → Bool
is_grant a = is_granted (reply a.0 a.1.request)

-- An entry is not granted in the state that it is asked in. (own)
abbrev pub is_denial : State × Entry → Bool
is_denial a = not (is_grant a)

-- The number of the last of some entries; without any, this one, where there is one. (own)
abbrev pub last_number : Option ℕ → List (State × Entry) → Option ℕ
last_number known [] = known
last_number known (a ∷ rest) = last_number (Some a.1.number) rest

-- What is told of the uses of a permission: how many were granted, how many denied, and which was the last. (own)
abbrev pub uses_of : State → List Entry → Triple → Uses
uses_of v entries t = record {
  granted = length (filter is_grant (uses_over v entries t));
  denied = length (filter is_denial (uses_over v entries t));
  last = last_number None (uses_over v entries t);
}

-- The usage of a permission that has these uses, where a state is the first. (own)
abbrev pub usage_by : State → Triple → Uses → Usage
usage_by v t u = record { access = t; is_held = is_held v t; uses = u }

-- The usage of a permission over entries from a state. (own)
abbrev pub usage_of : State → List Entry → Triple → Usage
usage_of v entries t = usage_by v t (uses_of v entries t)

-- A permission was never granted: the first state doesn't have it as a current access, and none of its gets was
-- granted. (own)
abbrev pub is_unused : Usage → Bool
is_unused usage = not usage.is_held && usage.uses.granted == 0

-- The accesses of a subject to an object that there can be, by mode. (own)
abbrev pub accesses_on : ℕ → ℕ → List Triple
accesses_on s o = (s, o, Execute) ∷ (s, o, Read) ∷ (s, o, Append) ∷ (s, o, Write) ∷ []

-- The accesses of a known subject that there can be, by object and mode; of another subject none. (own)
unfoldable pub accesses_by : State → ℕ → List Triple
accesses_by v s = if is_subject v s then flat_map (accesses_on s) (range_with_len 0 MAX_OBJECTS) else []

-- The accesses that there can be, by subject, object and mode. (own)
abbrev pub all_accesses : State → List Triple
all_accesses v = flat_map (accesses_by v) (range_with_len 0 MAX_SUBJECTS)

-- The permissions over entries from a state, by subject, object and mode. (own)
abbrev pub permissions : State → List Entry → List Triple
permissions v entries = filter (is_permission v entries) (all_accesses v)

-- The usages of the permissions over entries from a state. (own)
abbrev pub usages : State → List Entry → List Usage
usages v entries = map (usage_of v entries) (permissions v entries)
