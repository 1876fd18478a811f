use Rattle.std.proofs.Common.{◌≡◌, ◌+◌, drop, cond}
use Rattle.std.specs.Prelude.{nat_lt}
use Rattle.json.specs.Value.{members_view}
use Rattle.mls_start_faults.specs.Repeated.{count_of}
use Rattle.mls_start_faults.proofs.repeats.is_twice.Given as goal

-- it depends on what was found and on what is left
abbrev pub invariant-loop-member : goal.invariant-loop-member
invariant-loop-member l =
    nat_lt 1 (count_of l.key (members_view l.members))
    ≡ nat_lt 1 (cond l.is_found 1 0 + count_of l.key (members_view (drop l.member-index l.members)))
