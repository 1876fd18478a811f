use Rattle.std.proofs.Common.{◌≡◌, ◌∙◌, ap, sym, drop, ◌∷◌, suc, arith, rules, ◌+◌}
use Rattle.std.proofs.Math.Seq.{drop-cons}
use Rattle.std.proofs.lemmas.List.{drop_all}
use Rattle.mls_tables.specs.Table.{Table, without_object, without_objects}
use Rattle.mls_tables.proofs.Within.{without_objects-first, without_objects-none}
use Rattle.mls_tables.proofs.matrix.Matrix.clear_objects.Goals as goal

pub loop-o-preserved : goal.loop-o-preserved
loop-o-preserved g c =
    let triples = c.loop-o.self.triples in
    let rest = drop (suc c.loop-o.o-index) c.args.group.now in
    let split : drop c.loop-o.o-index c.args.group.now ≡ c.o-item.result ∷ rest = drop-cons c.args.group.now c.loop-o.o-index c.o-item.result c.loop-o-test.true ∙ ap (λ o. o ∷ rest) (sym c.o-item.is) in
    let cleared : c.clear_object.new.self ≡ record c.loop-o.self { triples = without_object triples c.o-item.result } = search rules in
    record {
      rows = ap (λ (t : Table). t.subjects) cleared ∙ c.loop-o.invariant.rows;
      columns = ap (λ (t : Table). t.columns) cleared ∙ c.loop-o.invariant.columns;
      triples = (let next : c.loop-o.o-index + 1 ≡ suc c.loop-o.o-index = omega arith in ap (λ n. without_objects c.clear_object.new.self.triples (drop n c.args.group.now)) next)
          ∙ ap (λ (t : Table). without_objects t.triples rest) cleared
          ∙ without_objects-first triples c.o-item.result rest
          ∙ ap (without_objects triples) (sym split)
          ∙ c.loop-o.invariant.triples;
    }

pub returns : goal.returns
returns g c =
    let none : drop c.loop-o.o-index c.args.group.now ≡ _ = drop_all c.loop-o.o-index c.args.group.now c.loop-o-test.false in
    (λ i. record {
      subjects = c.loop-o.invariant.rows i;
      columns = c.loop-o.invariant.columns i;
      triples = (sym (without_objects-none c.loop-o.self.triples) ∙ sym (ap (without_objects c.loop-o.self.triples) none) ∙ c.loop-o.invariant.triples) i;
    })
