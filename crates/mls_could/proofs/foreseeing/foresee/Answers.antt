use Rattle.std.proofs.Common.{◌≡◌, ◌++◌, sym, ap, ◌∙◌, arith}
use Rattle.std.specs.List.{flat_map, range_with_len}
use Rattle.mls_facts.proofs.Gathered.{range_flat_more}
use Rattle.mls_could.specs.Foreseeing.{pairs_with}
use Rattle.mls_could.proofs.Pairs.{same_count}
use Rattle.mls_could.proofs.foreseeing.foresee.Goals as goal

pub loop-n-preserved : goal.loop-n-preserved
loop-n-preserved c = record {
  pairs =
      c.in_ok-push_subject.ensures.pairs
      ∙ (λ i. c.loop-n.invariant.pairs i ++ pairs_with c.args.mode (c.new.ensures i))
      ∙ sym (range_flat_more (pairs_with c.args.mode) c.loop-n.n);
  each = c.push_subject.ensures.each;
}

pub returns-clause-pairs : goal.returns-clause-pairs
returns-clause-pairs c = λ count known.
    let all : c.loop-n.n ≡ c.subject_count-n-end.result = omega arith in
    let same = same_count c.subject_count-n-end.result count (λ s. sym (c.subject_count-n-end.ensures.count s) ∙ known s) in
    c.loop-n.invariant.pairs
    ∙ ap (λ k. flat_map (pairs_with c.args.mode) (range_with_len 0 k)) (all ∙ same)
