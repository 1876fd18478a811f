-- What a handle owns.
use Rattle.std.specs.Prelude.{◌≡◌, ℕ, nat_lt, is_some, Option, Some, None}
use base.Fml.{Fml, ftrue}
use denote.RawPtr.{Ptr}
use Rattle.std.specs.Box.Ownership.{box_owns}
use Rattle.std.specs.contracts.impls.GlobalAllocator.TheImpl.{ghosts}
use Rattle.mls_c.specs.Opened.{Opened}
use Rattle.mls_c.specs.contracts.opened.Opened as opened

-- What lies at a handle's pointer: an open monitor in a block of the heap, or nothing. (own)
abbrev pub owns_opened : Ptr → Option Opened → Fml
owns_opened p None = ftrue
owns_opened p (Some o) = box_owns (ghosts.dealloc_token _) opened.the_row p o

-- A handle's flag says whether it holds a monitor. (own)
abbrev pub Told : ℕ → Option Opened → Type 0
Told held value = is_some value ≡ nat_lt 0 held
