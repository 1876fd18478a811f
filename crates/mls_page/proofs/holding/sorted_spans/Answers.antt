use Rattle.std.proofs.Common.{rules, subst, List}
use Rattle.std.specs.List.Sorted.{IsPermutation, IsStableByKey}
use Rattle.std.specs.Ordering.{nat_cmp}
use Rattle.std.proofs.lemmas.List.Sorted.{IsNonDecreasingBy-from_sort_by_key, answers_always}
use Rattle.mls_page.specs.Held.{access_of}
use Rattle.mls_page.proofs.holding.sorted_spans.Goals as goal
use Rattle.mls_spans.specs.declared.span.Span.{Span}

pub returns : goal.returns
returns c = record {
  same = subst (λ (s : List Span). IsPermutation s c.sort_by_key.new.self.items) c.in_ok-sorted.ensures.items c.sort_by_key.ensures.permutation;
  ascending =
      IsNonDecreasingBy-from_sort_by_key access_of c.sort_by_key.new.self.items c.in_ok-sort_by_key.ensures.sorted (λ a r q k. search rules);
  stable = subst (λ (s : List Span). IsStableByKey access_of nat_cmp s c.sort_by_key.new.self.items) c.in_ok-sorted.ensures.items
      (c.sort_by_key.ensures.stable access_of (answers_always _ _ _ (λ f a r q k. search rules)));
}
