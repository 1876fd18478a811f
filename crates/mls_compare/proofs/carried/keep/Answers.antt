use Rattle.std.proofs.Common.{Some, set, refl}
use Rattle.mls_compare.proofs.Labels.{kept_more}
use Rattle.mls_compare.proofs.carried.keep.Goals as goal

pub returns-then-place-len : goal.returns-then-place-len
returns-then-place-len c = λ scheme other right kept.
    kept_more scheme other c.args.slots.now.items (set c.args.slots.now.items c.place-place.result (Some c.args.carried.now)) c.place-place.result
    c.args.carried.now refl right kept
