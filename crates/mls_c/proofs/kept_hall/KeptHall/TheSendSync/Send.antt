-- A handle may go to another thread, since an office and the heap's blocks may.
use mir.Raw.{raw}
use denote.Memory.{lone}
use denote.RawPtr.{Ptr}
use denote.Param.Send.{IsSend, owning_send, struct_send, sendable}
use denote.Builtin.{RawPtr}
use denote.Struct.Struct.{exits_of}
use denote.Struct.Owning.{shape, fields, to}
use base.Shift.{Keyless}
use Rattle.std.specs.Prelude.{Option, Some, None}
use Rattle.std_alloc.proofs.SendSync.{quiet, lies}
use Rattle.std.proofs.Crossing as heap
use Rattle.mls_c.specs.Offices.{Hall}
use Rattle.mls_c.proofs.hall.Hall.TheSendSync as sent_hall
use Rattle.mls_c.specs.OfficeHandles.{owns_hall}
use Rattle.mls_c.specs.contracts.hall.Hall as hall
use Rattle.mls_c.specs.contracts.kept_hall.KeptHall.{the_row, the_type}

keyless : (p : Ptr) (x : Option Hall) → Keyless (owns_hall p x)
keyless p None = tt
keyless p (Some m) = (lies hall.the_row (sent_hall.the_send) p m, heap.frees.frees _ (raw (lone hall.the_row.mir)) p)

pub send : IsSend the_row
send = let O = the_type in let ps : IsSend RawPtr = search sendable in
    owning_send O (ps, tt) (λ d. keyless d.at d.value) (λ k. quiet (to O) (exits_of k (fields O)) ((struct_send (shape O) (ps, tt)).leaving k))
