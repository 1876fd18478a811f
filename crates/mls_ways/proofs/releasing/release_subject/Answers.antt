use Rattle.std.proofs.Common.{ap, ◌∙◌}
use Rattle.std.specs.Prelude.{◌==◌}
use Rattle.std.specs.List.{list_any}
use Rattle.mls_ways.proofs.Freeing.{all_listed}
use Rattle.mls_ways.proofs.releasing.release_subject.Goals as goal

pub returns-clause-free : goal.returns-clause-free
returns-clause-free c =
    all_listed c.release_objects-done.result c.args.state.now c.release_objects-done.new.state c.args.script.now.items c.release_objects-done.new.script.items c.args.s
    (λ o. list_any (λ a. o == a) c.deref.result.now)
    (λ o. ap (list_any (λ a. o == a)) (c.deref.ensures.value ∙ c.in_ok-objects.ensures.items) ∙ c.objects_of.ensures.each o)
    c.release_objects-done.ensures.releases c.release_objects-done.ensures.free
