use Rattle.mls_start_file.proofs.Placed.{cells_more}
use Rattle.mls_start_file.proofs.building.add_cells.Goals as goal

pub loop-triple-preserved : goal.loop-triple-preserved
loop-triple-preserved c =
    cells_more c.args.triples.now c.loop-triple.triple-index _ c.args.builder.now c.loop-triple.builder c.allow.new.self c.new-subject.result c.new-object.result c.loop-triple-test.true c.new-subject.ensures c.new-object.ensures c.loop-triple.invariant c.in_ok-allow.ensures.ok
