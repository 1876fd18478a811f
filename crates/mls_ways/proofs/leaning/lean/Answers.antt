use Rattle.mls_futures.specs.Closure.{acts_in}
use Rattle.mls_ways.proofs.Lean.{left_out}
use Rattle.mls_ways.proofs.leaning.lean.Goals as goal

pub loop-requests-smaller : goal.loop-requests-smaller
loop-requests-smaller c =
    (left_out c.args.first.now c.args.access.now (acts_in c.args.actors.now) c.loop-requests.requests.items c.deref.result.now c.deref-in-Some.result.now
    c.in_ok-requests.requests.items c.in_ok-n.field-0 c.in-Some.n c.in-Some.is c.in_ok-n.ensures c.deref.ensures.value c.deref-in-Some.ensures.value c.in_ok-requests.ensures).shorter

pub loop-requests-preserved : goal.loop-requests-preserved
loop-requests-preserved c =
    let less =
    left_out c.args.first.now c.args.access.now (acts_in c.args.actors.now) c.loop-requests.requests.items c.deref.result.now c.deref-in-Some.result.now
    c.in_ok-requests.requests.items c.in_ok-n.field-0 c.in-Some.n c.in-Some.is c.in_ok-n.ensures c.deref.ensures.value c.deref-in-Some.ensures.value c.in_ok-requests.ensures in
    record { does = less.does; of_actors = less.of_actors c.loop-requests.invariant.of_actors }
