-- What the tables hold by which requests are carried over.
use Rattle.std.specs.Prelude.{◌≡◌, ℕ, ◌<◌, nat_le, All, IfSome, List, length, map, get_or, Option, Some, None}
use Rattle.std.specs.Prelude.{if◌then◌else◌}
use Rattle.mls_labels.specs.Scheme.{Scheme}
use Rattle.mls_lines.specs.Names.{Names}
use Rattle.mls_differences.specs.Alike.{carried_label}
use Rattle.mls_differences.specs.Counterparts.{counterpart}
use Rattle.mls_compare.specs.declared.carried.Carried.{Carried}
use Rattle.mls_compare.specs.declared.carrier.Carrier.{Carrier}
use Rattle.mls_compare.specs.Following.{Reached}
use Rattle.mls_compare.specs.declared.following.Follower.{Follower}
use Rattle.mls_compare.specs.declared.object_table.Since.{Since}
use Rattle.mls_compare.specs.declared.object_table.ObjectTable.{ObjectTable}

-- What was kept of a label is its counterpart. (own)
abbrev pub IsKept : Scheme → Scheme → Option Carried → Type 0
IsKept scheme other slot = IfSome slot (λ c. c.to ≡ carried_label scheme other c.label)

-- Whatever was kept of labels is their counterparts. (own)
abbrev pub AreKept : Scheme → Scheme → List (Option Carried) → Type 0
AreKept scheme other slots = All (IsKept scheme other) slots

-- A counterpart, where it has been one since the number last ceased to be any's. (own)
abbrev pub if_still : List ℕ → Option Since → Option ℕ
if_still ceased None = None
if_still ceased (Some c) = if nat_le (get_or ceased c.object 0) c.time then Some c.object else None

-- A counterpart, where there is one, as one from the beginning. (own)
abbrev pub from_the_beginning : Option ℕ → Option Since
from_the_beginning None = None
from_the_beginning (Some o) = Some (record { object = o; time = 0 })

-- The counterparts that a table of objects has. (own)
abbrev pub objects_in : ObjectTable → List (Option ℕ)
objects_in t = map (if_still t.ceased.items) t.objects.items

-- A counterpart has been one from before a time. (own)
abbrev pub IsBefore : ℕ → Option Since → Type 0
IsBefore time slot = IfSome slot (λ c. c.time < time)

-- A table of objects has just these counterparts, all of them from before a time, and room for the time at which each
-- number of 16 bits ceased to be one. (own)
pub record Holds (time : ℕ) (wanted : List (Option ℕ)) (t : ObjectTable) : Type 0 where
  pub objects : objects_in t ≡ wanted
  pub before : All (IsBefore time) t.objects.items
  pub room : length t.ceased.items ≡ 65536

-- Tables by which subjects and labels of one start are carried over to another by name. (own)
pub record Carries (a b : Names) (c : Carrier) : Type 0 where
  pub subjects : (s : ℕ) → get_or c.subjects.items s None ≡ counterpart a.subjects b.subjects s
  pub security : AreKept a.security b.security c.security.items
  pub integrity : AreKept a.integrity b.integrity c.integrity.items

-- Where a second start has come to. (own)
abbrev pub reached : Follower → Reached
reached f = record { state = f.state; objects = objects_in f.objects }

-- A second start is ready for a request at a time. (own)
pub record Stands (a b : Names) (time : ℕ) (f : Follower) : Type 0 where
  pub carries : Carries a b f.carrier
  pub holds : Holds time (objects_in f.objects) f.objects
