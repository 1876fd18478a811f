use Rattle.std.proofs.Common.{◌++◌, length, drop, ap, ◌∙◌, arith}
use Rattle.std.proofs.lemmas.Slice.{between_to_end}
use Rattle.mls_ways.proofs.Lean.{without-parts}
use Rattle.mls_ways.proofs.leaning.without.Goals as goal

pub returns : goal.returns
returns c =
    let back = c.split_at.result.1.now in
    c.in_ok-extend_from_slice.ensures.items
    ∙ (λ i. (c.in_ok-found.ensures.items ∙ c.split_at.ensures.front) i ++ (between_to_end back 1 (length back) (omega arith) ∙ ap (drop 1) c.split_at.ensures.back) i)
    ∙ without-parts c.args.n c.args.requests.now c.requires
