use Rattle.std.proofs.Common.{ap, sym, ◌∙◌}
use Rattle.std.specs.FinMap as table
use Rattle.std.specs.List.{flat_map}
use Rattle.std.proofs.lemmas.Bool.{and_parts}
use Rattle.mls_explain.specs.Demands.{failing_at}
use Rattle.mls_explain.specs.declared.demand.Demand.TheVariants.{StarAtLevel}
use Rattle.mls_explain.proofs.Freed.{released_helps, own_below, own_star, never_closed}
use Rattle.mls_explain.proofs.releasing.way_by_release.Goals as goal

pub returns-then-opens : goal.returns-then-opens
returns-then-opens g c =
    let v = c.args.state.now in
    let s = c.args.s in
    let o = c.args.o in
    let x = c.args.x in
    let l = c.own_level-level.result in
    let all = and_parts _ _ (sym c.opens.ensures ∙ c.if-opens.true) in
    let met = and_parts _ _ all.1 in
    let others = and_parts _ _ met.1 in
    let below = own_below (table.get v.maximum s) (table.get v.object_label o) x l c.own_level-level.ensures others.0 in
    let star = own_star (table.get v.maximum s) (table.get v.object_label o) x l c.own_level-level.ensures in
    record {
      alone = c.requires.alone;
      level = c.own_level-level.ensures;
      helps =
          released_helps v s l c.objects_of.result.now c.objects_of.ensures.each (ap (flat_map (failing_at (StarAtLevel s l) v s)) (sym c.objects_of.ensures.list))
          o x c.requires.subject c.requires.object c.objects_of.ensures.active all.0 below star met.0 others.0 others.1;
    }

pub returns-else-opens : goal.returns-else-opens
returns-else-opens g c =
    never_closed c.args.state.now c.args.s c.args.o c.args.x c.own_level-level.result c.own_level-level.ensures (sym c.opens.ensures ∙ c.if-opens.false)
