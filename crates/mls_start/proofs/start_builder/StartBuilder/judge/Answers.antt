use Rattle.std.proofs.Common.{◌≡◌, true, false, ap, ◌∙◌}
use Rattle.std.specs.FinSet as set
use Rattle.mls_tables.specs.Triples.{triple_cmp}
use Rattle.mls_start.specs.Rows.{Rows}
use Rattle.mls_start.proofs.Secured.{judged}
use Rattle.mls_start.proofs.start_builder.StartBuilder.judge.Goals as goal

pub returns-then-not-are_secure-clause-fault : goal.returns-then-not-are_secure-clause-fault
returns-then-not-are_secure-clause-fault g c =
    let a = c.self.inside in
    let v : Rows = record {
      security = a.security;
      integrity = a.integrity;
      profile = a.profile;
      root = a.root;
      subjects = a.subjects.items;
      objects = a.objects.items;
      cells = set.from_list c.drop_repeats.new.cells.items;
      accesses = set.from_list c.drop_repeats-2.new.cells.items;
    } in
    let same : v ≡ c.args.self.now =
    (λ i. record v { cells = c.drop_repeats.ensures.same i; accesses = c.drop_repeats-2.ensures.same i }) ∙ c.self.view_is in
    judged c.args.self.now v same c.deref-3.result.now c.deref-4.result.now c.deref.result.now c.deref-2.result.now false
    c.deref.ensures.value c.deref-2.ensures.value
    (ap (λ ts. set.from_list {R = triple_cmp} ts) c.deref-3.ensures.value) (ap (λ ts. set.from_list {R = triple_cmp} ts) c.deref-4.ensures.value)
    c.in_default.ensures.cells c.in_default.ensures.none c.if-not-are_secure.ensures

pub returns-clause-faultless : goal.returns-clause-faultless
returns-clause-faultless g c =
    let a = c.self.inside in
    let v : Rows = record {
      security = a.security;
      integrity = a.integrity;
      profile = a.profile;
      root = a.root;
      subjects = a.subjects.items;
      objects = a.objects.items;
      cells = set.from_list c.drop_repeats.new.cells.items;
      accesses = set.from_list c.drop_repeats-2.new.cells.items;
    } in
    let same : v ≡ c.args.self.now =
    (λ i. record v { cells = c.drop_repeats.ensures.same i; accesses = c.drop_repeats-2.ensures.same i }) ∙ c.self.view_is in
    judged c.args.self.now v same c.deref-3.result.now c.deref-4.result.now c.deref.result.now c.deref-2.result.now true
    c.deref.ensures.value c.deref-2.ensures.value
    (ap (λ ts. set.from_list {R = triple_cmp} ts) c.deref-3.ensures.value) (ap (λ ts. set.from_list {R = triple_cmp} ts) c.deref-4.ensures.value)
    c.in_default.ensures.cells c.in_default.ensures.none c.if-not-are_secure.ensures
