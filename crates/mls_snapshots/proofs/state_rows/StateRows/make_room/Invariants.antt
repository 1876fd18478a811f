use Rattle.std.proofs.Common.{◌≡◌, ℕ, length, get_or, None}
use Rattle.mls_snapshots.specs.Gathering.{said_by}
use Rattle.mls_snapshots.proofs.state_rows.StateRows.make_room.Given as goal

-- so many places, with nothing in them
abbrev pub invariant-loop-n : goal.invariant-loop-n
invariant-loop-n l =
    (length l.self.objects.items ≡ l._n) × ((o : ℕ) → get_or l.self.objects.items o None ≡ None)
    × (said_by l.self ≡ record (said_by l.initial.self) { objects = l.self.objects.items })
