use Rattle.mls_differences.proofs.LoneRows.{told_coulds}
use Rattle.mls_differences.proofs.could_starts.compare_states.Goals as goal

pub returns : goal.returns
returns c =
    told_coulds c.args.form c.args.words.0.now c.args.words.1.now c.args.names.0.now c.args.names.1.now c.args.states.0.now c.args.states.1.now c.in_ok-one.one
    c.in_ok-other.other c.list_coulds-found.result c.agrees.ensures.tree c.agrees-2.ensures.tree c.in_ok-one.ensures.right c.in_ok-other.ensures.right
    c.in_ok-one.ensures.acts c.in_ok-other.ensures.acts c.list_coulds-found.ensures
