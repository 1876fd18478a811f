use Rattle.std.proofs.Common.{◌≡◌, ◌-◌, ◌≤◌, length, take, drop, refl, sym, ap, ◌∙◌, arith, length-drop}
use Rattle.std.proofs.lemmas.List.{take_rest}
use Rattle.mls_tables.specs.Table.{Table, without_objects}
use Rattle.mls_tables.proofs.Within.{without_objects-none}
use Rattle.mls_tables.proofs.IndexedTable.{without_objects-more}
use Rattle.mls_tables.proofs.access_set.AccessSet.drop_objects.Goals as goal

pub loop-at-init : goal.loop-at-init
loop-at-init g c = record { few = omega arith; rows = refl; columns = refl; triples = sym (without_objects-none c.args.self.now.triples) }

pub loop-at-preserved : goal.loop-at-preserved
loop-at-preserved g c =
    let group = c.args.group.now in
    let at = c.loop-at.at in
    let len = c.drop_head-at.result in
    let rest : take (length group - at) (drop at group) ≡ drop at group = take_rest group at in
    let most : len ≤ length (drop at group) = rw rest at c.drop_head-at.ensures.most in
    let removed : c.drop_head-at.new.self ≡ record c.loop-at.self { triples = without_objects c.loop-at.self.triples (take len (drop at group)) } = rw rest at c.drop_head-at.ensures.removed in
    record {
      few = omega (arith, length-drop at group);
      rows = ap (λ (t : Table). t.subjects) removed ∙ c.loop-at.invariant.rows;
      columns = ap (λ (t : Table). t.columns) removed ∙ c.loop-at.invariant.columns;
      triples = ap (λ (t : Table). t.triples) removed
          ∙ ap (λ ts. without_objects ts (take len (drop at group))) c.loop-at.invariant.triples
          ∙ without_objects-more c.args.self.now.triples group at len;
    }
