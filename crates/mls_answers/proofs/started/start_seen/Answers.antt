use Rattle.mls_answers.proofs.Starts.{refuses_is, start_is}
use Rattle.mls_answers.proofs.started.start_seen.Goals as goal

pub returns-clause-ok : goal.returns-clause-ok
returns-clause-ok c =
    start_is c.args.seen.now.names c.names.result.now c.args.seen.now.state c.state.result.now c.start_of.result c.names.ensures.names
    c.state.ensures.state c.start_of.ensures.ok

pub returns-clause-fault : goal.returns-clause-fault
returns-clause-fault c =
    refuses_is c.args.seen.now.names c.names.result.now c.args.seen.now.state c.state.result.now c.start_of.result c.names.ensures.names
    c.state.ensures.state c.start_of.ensures.fault
