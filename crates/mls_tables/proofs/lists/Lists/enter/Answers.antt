use Rattle.std.proofs.Common.{◌≡◌, ◌<◌, length, sym, ap, ◌∙◌, arith}
use Rattle.std.specs.List.{insert}
use Rattle.std.proofs.lemmas.List.{get_or_default, length-map, with_items_is}
use Rattle.mls_tables.specs.declared.span.Span.{Span}
use Rattle.mls_tables.specs.Lists.{nowhere, list_at}
use Rattle.mls_tables.proofs.Laid.{list_is, room_is, changed_laid, changed_lists}
use Rattle.mls_tables.proofs.lists.Lists.enter.Goals as goal

pub invariant_of-self : goal.invariant_of-self
invariant_of-self g c =
    let spans = c.self.inside.spans.items in
    let store = c.self.inside.store.items in
    let many : length spans ≡ length c.args.self.now.lists = sym (length-map spans (list_at store)) ∙ ap (λ r. length r.lists) c.self.view_is in
    let here : c.args.i < length spans = omega (arith, c.requires.list) in
    let span = c.index-span.ensures ∙ get_or_default spans c.args.i c.index-span.result.now nowhere here in
    let room : c.index-span.result.now.len < c.index-span.result.now.room = room_is spans store c.self.invariant c.args.i here c.index-span.result.now span (rw (← c.self.view_is) at c.requires.room) in
    let after = with_items_is c.self.inside.store c.widen-longer.new.store (c.widen-longer.auto.store ∙ c.deref_mut.ensures.len) in
    let long = c.widen-longer.auto.store ∙ ap length c.deref_mut.ensures.value in
    let longer = c.widen-longer.ensures.longer in
    rw after (changed_laid spans store c.self.invariant c.args.i here c.index-span.result.now span c.widen-longer.new.store c.widen-longer.result long (ap (λ (t : Span). t.start) longer) (ap (λ (t : Span). t.room) longer) (rw longer (omega arith)))

pub returns-in-Err : goal.returns-in-Err
returns-in-Err g c =
    let spans = c.self.inside.spans.items in
    let store = c.self.inside.store.items in
    let many : length spans ≡ length c.args.self.now.lists = sym (length-map spans (list_at store)) ∙ ap (λ r. length r.lists) c.self.view_is in
    let here : c.args.i < length spans = omega (arith, c.requires.list) in
    let span = c.index-span.ensures ∙ get_or_default spans c.args.i c.index-span.result.now nowhere here in
    let room : c.index-span.result.now.len < c.index-span.result.now.room = room_is spans store c.self.invariant c.args.i here c.index-span.result.now span (rw (← c.self.view_is) at c.requires.room) in
    let after = with_items_is c.self.inside.store c.widen-longer.new.store (c.widen-longer.auto.store ∙ c.deref_mut.ensures.len) in
    let list = rw c.deref_mut.ensures.value at c.widen-longer.ensures.list in
    let before = rw c.deref_mut.ensures.value at c.widen-longer.ensures.before in
    let behind = rw c.deref_mut.ensures.value at c.widen-longer.ensures.behind in
    rw (after, c.in-Err.is, ← c.self.view_is) (changed_lists spans store c.self.invariant c.args.i here c.index-span.result.now span c.widen-longer.new.store c.widen-longer.result _ (list ∙ ap (λ l. insert l c.in-Err.k c.args.x) (sym (list_is spans store c.self.invariant c.args.i here c.index-span.result.now span))) before (λ u h. behind u (omega arith)))
