use Rattle.std.proofs.Common.{◌≡◌, ◌<◌, length, get_or, sym, ap, subst, ◌∙◌, arith}
use Rattle.std.proofs.lemmas.List.{get_or_default, length-map}
use Rattle.mls_tables.specs.Lists.{nowhere, list_at, FindsRoom}
use Rattle.mls_tables.proofs.Laid.{found_laid, found_lists, found_room}
use Rattle.mls_tables.proofs.lists.Lists.make_room.Goals as goal

pub invariant_of-self-2 : goal.invariant_of-self-2
invariant_of-self-2 g c =
    let spans = c.self.inside.spans.items in
    let store = c.self.inside.store.items in
    let many : length spans ≡ length c.args.self.now.lists = sym (length-map spans (list_at store)) ∙ ap (λ r. length r.lists) c.self.view_is in
    let here : c.args.i < length spans = omega (arith, c.requires.list) in
    let span = c.index-span.ensures ∙ get_or_default spans c.args.i c.index-span.result.now nowhere here in
    let found : FindsRoom store c.roomy.new.store.items (get_or spans c.args.i nowhere) c.in_ok-found.found = subst (λ s. FindsRoom store c.roomy.new.store.items s c.in_ok-found.found) span c.in_ok-found.ensures.ok in
    found_laid spans store c.self.invariant c.args.i here c.roomy.new.store.items c.in_ok-found.found found

pub returns-clause-same : goal.returns-clause-same
returns-clause-same g c =
    let spans = c.self.inside.spans.items in
    let store = c.self.inside.store.items in
    let many : length spans ≡ length c.args.self.now.lists = sym (length-map spans (list_at store)) ∙ ap (λ r. length r.lists) c.self.view_is in
    let here : c.args.i < length spans = omega (arith, c.requires.list) in
    let span = c.index-span.ensures ∙ get_or_default spans c.args.i c.index-span.result.now nowhere here in
    let found : FindsRoom store c.roomy.new.store.items (get_or spans c.args.i nowhere) c.in_ok-found.found = subst (λ s. FindsRoom store c.roomy.new.store.items s c.in_ok-found.found) span c.in_ok-found.ensures.ok in
    found_lists spans store c.self.invariant c.args.i here c.roomy.new.store.items c.in_ok-found.found found ∙ ap (λ r. r.lists) c.self.view_is

pub returns-clause-room : goal.returns-clause-room
returns-clause-room g c =
    let spans = c.self.inside.spans.items in
    let store = c.self.inside.store.items in
    let many : length spans ≡ length c.args.self.now.lists = sym (length-map spans (list_at store)) ∙ ap (λ r. length r.lists) c.self.view_is in
    let here : c.args.i < length spans = omega (arith, c.requires.list) in
    let span = c.index-span.ensures ∙ get_or_default spans c.args.i c.index-span.result.now nowhere here in
    let found : FindsRoom store c.roomy.new.store.items (get_or spans c.args.i nowhere) c.in_ok-found.found = subst (λ s. FindsRoom store c.roomy.new.store.items s c.in_ok-found.found) span c.in_ok-found.ensures.ok in
    found_room spans store c.self.invariant c.args.i here c.roomy.new.store.items c.in_ok-found.found found
