-- What the handles of an office and of its sessions own.
use Rattle.std.specs.Prelude.{◌≡◌, ℕ, nat_lt, is_some, Option, Some, None}
use base.Fml.{Fml, ftrue}
use denote.RawPtr.{Ptr}
use Rattle.std.specs.Box.Ownership.{box_owns}
use Rattle.std.specs.contracts.impls.GlobalAllocator.TheImpl.{ghosts}
use Rattle.mls_c.specs.Offices.{Place, Hall}
use Rattle.mls_c.specs.contracts.place.Place as place
use Rattle.mls_c.specs.contracts.hall.Hall as hall

-- What lies at a session's pointer: a session with its office in a block of the heap, or nothing. (own)
abbrev pub owns_place : Ptr → Option Place → Fml
owns_place p None = ftrue
owns_place p (Some o) = box_owns (ghosts.dealloc_token _) place.the_row p o

-- What lies at an office's pointer: an office with its sessions in a block of the heap, or nothing. (own)
abbrev pub owns_hall : Ptr → Option Hall → Fml
owns_hall p None = ftrue
owns_hall p (Some o) = box_owns (ghosts.dealloc_token _) hall.the_row p o

-- The flag of a session's handle says whether it holds one. (own)
abbrev pub ToldPlace : ℕ → Option Place → Type 0
ToldPlace held value = is_some value ≡ nat_lt 0 held

-- The flag of an office's handle says whether it holds one. (own)
abbrev pub ToldHall : ℕ → Option Hall → Type 0
ToldHall held value = is_some value ≡ nat_lt 0 held
