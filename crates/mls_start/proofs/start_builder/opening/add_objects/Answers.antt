use Rattle.std.proofs.Common.{◌≡◌, ◌<◌, ◌∙◌, arith}
use Rattle.mls_tables.specs.declared.limits.TheConstants.{MAX_OBJECTS}
use Rattle.mls_start.specs.Growing.{with_row}
use Rattle.mls_start.proofs.Opening.{rows_left, parents_left, active_row, added_row}
use Rattle.mls_start.proofs.start_builder.opening.add_objects.Goals as goal

pub loop-object-preserved : goal.loop-object-preserved
loop-object-preserved g c =
    let v = c.loop-object.state in
    let o = c.object-item.result in
    let so_far = c.loop-object.invariant in
    let within = c.loop-object-test.true in
    let room : v.next < MAX_OBJECTS = omega (arith, c.requires.room, so_far.next, within) in
    let is : c.add_object.new.self ≡ with_row v o = c.in_ok-add_object.ensures.ok ∙ added_row v o so_far.active room in
    rw is (record {
      rows = rows_left c.args.objects.now c.loop-object.object-index o within c.object-item.is v ∙ so_far.rows;
      next = omega (arith, so_far.next);
      active = active_row v o so_far.active;
      parents = (parents_left c.args.objects.now c.loop-object.object-index o within c.object-item.is v.next so_far.parents).1;
    })
