use Rattle.std.proofs.Common.{rules, ◌≡◌, ◌++◌, sym, ap, ◌∙◌}
use Rattle.std.specs.List.{flat_map, range_with_len}
use Rattle.mls_facts.proofs.Gathered.{range_flat_more}
use Rattle.mls_tables.specs.declared.limits.TheConstants.{MAX_SUBJECTS}
use Rattle.mls_spans.specs.Trust.{trust_where}
use Rattle.mls_spans.proofs.trusting.trust_by.Goals as goal

pub loop-s-preserved : goal.loop-s-preserved
loop-s-preserved c =
    let row = trust_where c.args.first.now c.args.granted.now in
    c.in_ok-push_trust.ensures ∙ ap (λ t. t ++ row c.loop-s.s) c.loop-s.invariant ∙ sym (range_flat_more row c.loop-s.s)

pub returns : goal.returns
returns c =
    let all : c.loop-s.s ≡ MAX_SUBJECTS = search rules in
    c.loop-s.invariant ∙ ap (λ k. flat_map (trust_where c.args.first.now c.args.granted.now) (range_with_len 0 k)) all
