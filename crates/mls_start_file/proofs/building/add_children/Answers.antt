use Rattle.std.proofs.Common.{List, refl, ◌++◌, ◌∷◌, []}
use Rattle.mls_start.specs.declared.object_row.ObjectRow.{ObjectRow}
use Rattle.mls_start_file.specs.Placing.{placed_child}
use Rattle.mls_start_file.proofs.Placed.{unplaced, placed_more, rows_joined, same_but_objects}
use Rattle.mls_start_text.proofs.Laws.{own_lack, own_fold_more}
use Rattle.mls_start_file.proofs.building.add_children.Goals as goal

pub returns-in_default-clause-fault : goal.returns-in_default-clause-fault
returns-in_default-clause-fault c =
    λ _. (refl, own_lack placed_child c.args.children.now c.loop-child.child-index c.child-item.result c.loop-child-test.true c.child-item.is (unplaced c.child-item.result c.in_default.is))

pub loop-child-preserved : goal.loop-child-preserved
loop-child-preserved c = record {
  same = same_but_objects c.args.builder.now c.loop-child.builder c.object.new.self _ c.loop-child.invariant.same c.in_ok-object.ensures.ok;
  objects =
      own_fold_more placed_child (λ (rows : List ObjectRow). c.args.builder.now.objects ++ rows) (λ (rows : List ObjectRow) (row : ObjectRow). rows ++ row ∷ []) (rows_joined c.args.builder.now.objects)
      c.args.children.now c.loop-child.child-index c.child-item.result c.loop-child.builder.objects c.object.new.self.objects c.loop-child-test.true c.child-item.is
      (placed_more c.child-item.result c.in-Some.parent c.new.result c.loop-child.builder.objects c.object.new.self.objects c.in-Some.is c.new.ensures (λ i. (c.in_ok-object.ensures.ok i).objects))
      c.loop-child.invariant.objects;
}
