use Rattle.std.proofs.Common.{◌+◌, ◌++◌, ◌∷◌, [], take, ap, sym, ◌∙◌}
use Rattle.std.proofs.lemmas.List.{take_more}
use Rattle.mls_ways.proofs.Freeing.{releases_none, releases_on, none_listed, one_listed}
use Rattle.mls_ways.proofs.releasing.release_objects.Goals as goal

pub loop-o-init : goal.loop-o-init
loop-o-init c = record {
  releases = releases_none c.args.state.now c.args.script.now.items;
  free = none_listed c.args.state.now c.args.s;
}

pub loop-o-preserved : goal.loop-o-preserved
loop-o-preserved c = record {
  releases = releases_on c.args.state.now c.loop-o.state c.release_object.new.state c.args.script.now.items c.loop-o.script.items c.release_object.new.script.items
      c.loop-o.invariant.releases c.in_ok-release_object.ensures.releases;
  free = one_listed c.loop-o.state c.release_object.new.state c.loop-o.script.items c.release_object.new.script.items c.args.s c.o-item.result
      (take c.loop-o.o-index c.args.objects.now) (take (c.loop-o.o-index + 1) c.args.objects.now)
      (take_more c.args.objects.now c.loop-o.o-index c.o-item.result c.loop-o-test.true ∙ ap (λ x. take c.loop-o.o-index c.args.objects.now ++ x ∷ []) (sym c.o-item.is))
      c.in_ok-release_object.ensures.releases c.loop-o.invariant.free c.in_ok-release_object.ensures.free;
}
