use Rattle.std.proofs.Common.{◌≡◌, ◌++◌, map, string_bytes}
use Rattle.std.specs.List.{flat_map}
use Rattle.serde_json.specs.View.{members_view}
use Rattle.mls_start_faults.specs.Places.{located_view, part_steps}
use Rattle.mls_start_faults.specs.Rows.{keys_of, unknown_places}
use Rattle.mls_start_faults.proofs.rows.push_others.Given as goal

-- what is written and what is left to write are all
abbrev pub invariant-loop-member : goal.invariant-loop-member
invariant-loop-member l =
    (goal.iterator-loop-member).can_next l.member-iterator
    × (goal.iterator-loop-member).is_finite l.member-iterator
    × (map located_view l.found.items ++ flat_map (unknown_places (part_steps l.part) (map (λ known. known.now) l.known)) (map string_bytes l.member-iterator)
    ≡ map located_view l.fn.found.items ++ flat_map (unknown_places (part_steps l.part) (map (λ known. known.now) l.known)) (keys_of (members_view l.members.entries)))
