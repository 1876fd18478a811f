use Rattle.mls_start_file.proofs.Placed.{accesses_more}
use Rattle.mls_start_file.proofs.building.add_accesses.Goals as goal

pub loop-triple-preserved : goal.loop-triple-preserved
loop-triple-preserved c =
    accesses_more c.args.triples.now c.loop-triple.triple-index _ c.args.builder.now c.loop-triple.builder c.access.new.self c.new-subject.result c.new-object.result c.loop-triple-test.true c.new-subject.ensures c.new-object.ensures c.loop-triple.invariant c.in_ok-access.ensures.ok
