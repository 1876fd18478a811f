-- The permissions on an object.
use Rattle.std.specs.Prelude.{ℕ, List, [], filter, if◌then◌else◌}
use Rattle.std.specs.FinSet as set
use Rattle.std.specs.List.{flat_map, range_with_len}
use Rattle.mls_requests.specs.declared.entry.Entry.{Entry}
use Rattle.mls_state.specs.State.{State, is_subject}
use Rattle.mls_tables.specs.Mode.{ModeSet}
use Rattle.mls_tables.specs.Triples.{Triple}
use Rattle.mls_tables.specs.declared.limits.TheConstants.{MAX_SUBJECTS}
use Rattle.mls_spans.specs.Uses.{is_permission, accesses_on}

-- The accesses of a known subject to an object that there can be, of the modes that are asked for, in their order; of
-- another subject none. (own)
unfoldable pub accesses_of : State → ModeSet → ℕ → ℕ → List Triple
accesses_of v asked o s = if is_subject v s then filter (λ t. set.contains asked t.2) (accesses_on s o) else []

-- The accesses to an object that there can be, of the modes that are asked for, by subject and mode. (own)
abbrev pub accesses_to : State → ModeSet → ℕ → List Triple
accesses_to v asked o = flat_map (accesses_of v asked o) (range_with_len 0 MAX_SUBJECTS)

-- Those of them that are permissions over entries from a state. (own)
abbrev pub permissions_to : State → List Entry → ModeSet → ℕ → List Triple
permissions_to v entries asked o = filter (is_permission v entries) (accesses_to v asked o)
