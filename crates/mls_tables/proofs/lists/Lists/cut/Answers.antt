use Rattle.std.proofs.Common.{◌≡◌, ◌<◌, ◌+◌, ◌≤◌, length, sym, ap, subst, ◌∙◌, arith}
use Rattle.std.proofs.lemmas.List.{get_or_default, length-map, with_items_is}
use Rattle.mls_tables.specs.declared.span.Span.{Span}
use Rattle.mls_tables.specs.Lists.{nowhere, list_at}
use Rattle.mls_tables.specs.Rows.{cut}
use Rattle.mls_tables.proofs.Laid.{list_is, list_short, changed_laid, changed_lists}
use Rattle.mls_tables.proofs.lists.Lists.cut.Goals as goal

pub shorten-shorter-requires-clause-place : goal.shorten-shorter-requires-clause-place
shorten-shorter-requires-clause-place g c =
    let spans = c.self.inside.spans.items in
    let store = c.self.inside.store.items in
    let many : length spans ≡ length c.args.self.now.lists = sym (length-map spans (list_at store)) ∙ ap (λ r. length r.lists) c.self.view_is in
    let here : c.args.i < length spans = omega (arith, c.requires.list) in
    let span = c.index-span.ensures ∙ get_or_default spans c.args.i c.index-span.result.now nowhere here in
    list_short spans store c.self.invariant c.args.i here c.index-span.result.now span (c.args.k + c.args.count) (rw (← c.self.view_is) at c.requires.place)

pub invariant_of-self : goal.invariant_of-self
invariant_of-self g c =
    let spans = c.self.inside.spans.items in
    let store = c.self.inside.store.items in
    let many : length spans ≡ length c.args.self.now.lists = sym (length-map spans (list_at store)) ∙ ap (λ r. length r.lists) c.self.view_is in
    let here : c.args.i < length spans = omega (arith, c.requires.list) in
    let span = c.index-span.ensures ∙ get_or_default spans c.args.i c.index-span.result.now nowhere here in
    let room : c.index-span.result.now.len ≤ c.index-span.result.now.room = subst (λ u. u.len ≤ u.room) (sym span) (c.self.invariant.short c.args.i here) in
    let after = with_items_is c.self.inside.store c.shorten-shorter.new.store (c.shorten-shorter.auto.store ∙ c.deref_mut.ensures.len) in
    let long = c.shorten-shorter.auto.store ∙ ap length c.deref_mut.ensures.value in
    let shorter = c.shorten-shorter.ensures.shorter in
    rw after (changed_laid spans store c.self.invariant c.args.i here c.index-span.result.now span c.shorten-shorter.new.store c.shorten-shorter.result long (ap (λ (t : Span). t.start) shorter) (ap (λ (t : Span). t.room) shorter) (rw shorter (omega arith)))

pub returns : goal.returns
returns g c =
    let spans = c.self.inside.spans.items in
    let store = c.self.inside.store.items in
    let many : length spans ≡ length c.args.self.now.lists = sym (length-map spans (list_at store)) ∙ ap (λ r. length r.lists) c.self.view_is in
    let here : c.args.i < length spans = omega (arith, c.requires.list) in
    let span = c.index-span.ensures ∙ get_or_default spans c.args.i c.index-span.result.now nowhere here in
    let room : c.index-span.result.now.len ≤ c.index-span.result.now.room = subst (λ u. u.len ≤ u.room) (sym span) (c.self.invariant.short c.args.i here) in
    let after = with_items_is c.self.inside.store c.shorten-shorter.new.store (c.shorten-shorter.auto.store ∙ c.deref_mut.ensures.len) in
    let list = rw c.deref_mut.ensures.value at c.shorten-shorter.ensures.list in
    let before = rw c.deref_mut.ensures.value at c.shorten-shorter.ensures.before in
    let behind = rw c.deref_mut.ensures.value at c.shorten-shorter.ensures.behind in
    rw (after, ← c.self.view_is) (changed_lists spans store c.self.invariant c.args.i here c.index-span.result.now span c.shorten-shorter.new.store c.shorten-shorter.result _ (list ∙ ap (λ l. cut l c.args.k c.args.count) (sym (list_is spans store c.self.invariant c.args.i here c.index-span.result.now span))) before (λ u h. behind u (omega arith)))
