use Rattle.std.proofs.Common.{ℕ, List, string_bytes, subst}
use Rattle.mls_snapshots.specs.Starts.{IsStartBy}
use Rattle.mls_snapshots.proofs.state_start.start_of_state.Goals as goal

pub returns-clause-start : goal.returns-clause-start
returns-clause-start c =
    subst (λ (order : List ℕ). IsStartBy c.args.names.now c.args.state.now order (string_bytes c.in_ok-text.text)) c.deref-2.ensures.value
    (subst (λ (text : List ℕ). IsStartBy c.args.names.now c.args.state.now c.deref-2.result.now text) c.as_str.ensures.value
    (c.in_ok-opens_alike.ensures c.if-not-branch.false))
