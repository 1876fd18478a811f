use Rattle.std.proofs.Common.{◌≡◌, ◌<◌, length, sym, ap, ◌∙◌, refl, arith}
use Rattle.std.proofs.lemmas.List.{get_or_default, length-map}
use Rattle.mls_tables.specs.Lists.{nowhere, list_at}
use Rattle.mls_tables.proofs.Laid.{changed_lists}
use Rattle.mls_tables.proofs.lists.Lists.clear.Goals as goal

pub returns : goal.returns
returns g c =
    let spans = c.self.inside.spans.items in
    let store = c.self.inside.store.items in
    let many : length spans ≡ length c.args.self.now.lists = sym (length-map spans (list_at store)) ∙ ap (λ r. length r.lists) c.self.view_is in
    let here : c.args.i < length spans = omega (arith, c.requires) in
    let span = c.index-span.ensures ∙ get_or_default spans c.args.i c.index-span.result.now nowhere here in
    rw (← c.self.view_is) (changed_lists spans store c.self.invariant c.args.i here c.index-span.result.now span store _ _ refl (λ u h. refl) (λ u h. refl))
