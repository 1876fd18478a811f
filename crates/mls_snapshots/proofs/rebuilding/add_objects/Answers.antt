use Rattle.std.proofs.Common.{◌≡◌, ◌≤◌, None, List, Option, get_or, ap, ◌∙◌, arith}
use Rattle.mls_tables.specs.declared.limits.TheConstants.{MAX_OBJECTS}
use Rattle.mls_snapshots.specs.declared.state_line.ObjectParts.{ObjectParts}
use Rattle.mls_snapshots.specs.Rebuilding.{AreObjectsOf}
use Rattle.mls_snapshots.proofs.Rebuilt.{all_there}
use Rattle.mls_snapshots.proofs.rebuilding.add_objects.Goals as goal

pub returns-then-next-gt-MAX_OBJECTS : goal.returns-then-next-gt-MAX_OBJECTS
returns-then-next-gt-MAX_OBJECTS c v tree whole said part =
    absurd (let few : v.next ≤ MAX_OBJECTS = tree.next.few in let same : c.args.rows.now.next ≡ v.next = said.next in omega (arith, few, same, c.if-next-gt-MAX_OBJECTS.true))

pub returns : goal.returns
returns c v tree whole said part =
    let objects : AreObjectsOf v c.deref.result.now = record {
      tree = tree;
      whole = whole;
      said = λ o. ap (λ (xs : List (Option ObjectParts)). get_or xs o None) c.deref.ensures.value ∙ said.objects o;
    } in
    c.in_ok-skip_to.ensures.ok
    ∙ all_there v c.place_all.new.state tree whole (c.in_ok-place_all.ensures.part v objects part) c.agrees.ensures.tree c.agrees.ensures.whole
    (c.in_ok-place_all.ensures.all v objects part) c.args.rows.now.next said.next
