use Rattle.std.proofs.Common.{ap, sym, ◌∙◌}
use Rattle.mls_snapshots.proofs.Likes.{active_of}
use Rattle.mls_snapshots.proofs.same.is_like.Goals as goal

pub is_same_by-same-requires-clause-active : goal.is_same_by-same-requires-clause-active
is_same_by-same-requires-clause-active c =
    active_of c.args.loaded.now.names c.args.loaded.now.start c.in_ok-opening.opening _ c.names-new.ensures.tied (c.in_ok-opening.ensures.opening ∙ c.start-2.ensures)
    (ap (λ v. v.next) (sym c.start.ensures) ∙ sym c.object_count.ensures.count ∙ c.if-object_count-order.false)
