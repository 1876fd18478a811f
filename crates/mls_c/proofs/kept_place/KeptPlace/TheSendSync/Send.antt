-- A handle may go to another thread, since a session and the heap's blocks may.
use mir.Raw.{raw}
use denote.Memory.{lone}
use denote.RawPtr.{Ptr}
use denote.Param.Send.{IsSend, owning_send, struct_send, sendable}
use denote.Builtin.{RawPtr}
use denote.Struct.Struct.{exits_of}
use denote.Struct.Owning.{shape, fields, to}
use base.Shift.{Keyless}
use Rattle.std.specs.Prelude.{Option, Some, None}
use Rattle.std_alloc.proofs.SendSync.{quiet, lies}
use Rattle.std.proofs.Crossing as heap
use Rattle.mls_c.specs.Offices.{Place}
use Rattle.mls_c.proofs.place.Place.TheSendSync as sent_place
use Rattle.mls_c.specs.OfficeHandles.{owns_place}
use Rattle.mls_c.specs.contracts.place.Place as place
use Rattle.mls_c.specs.contracts.kept_place.KeptPlace.{the_row, the_type}

keyless : (p : Ptr) (x : Option Place) → Keyless (owns_place p x)
keyless p None = tt
keyless p (Some m) = (lies place.the_row (sent_place.the_send) p m, heap.frees.frees _ (raw (lone place.the_row.mir)) p)

pub send : IsSend the_row
send = let O = the_type in let ps : IsSend RawPtr = search sendable in
    owning_send O (ps, tt) (λ d. keyless d.at d.value) (λ k. quiet (to O) (exits_of k (fields O)) ((struct_send (shape O) (ps, tt)).leaving k))
