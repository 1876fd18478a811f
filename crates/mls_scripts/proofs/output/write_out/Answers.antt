use Rattle.std.proofs.Common.{◌++◌, take}
use Rattle.std.proofs.KnownBytes.{Appends-trans}
use Rattle.mls_scripts.proofs.Texts.{taken_more}
use Rattle.mls_scripts.proofs.output.write_out.Goals as goal

pub loop-rest-preserved : goal.loop-rest-preserved
loop-rest-preserved g c =
    let inv = c.loop-rest.invariant in
    record {
      written = inv.written ++ take c.in-Ok.count c.loop-rest.rest.now;
      whole = taken_more _ _ _ c.in-Ok.count inv.whole;
      appended = Appends-trans _ _ _ _ _ inv.appended c.in-Ok.ensures.bytes;
    }
