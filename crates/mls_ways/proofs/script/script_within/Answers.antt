use Rattle.std.proofs.Common.{sym, subst}
use Rattle.mls_state.specs.Properties.{IsSecure}
use Rattle.mls_futures.specs.Closure.{acts_in, CouldGet}
use Rattle.mls_ways.proofs.Freeing.{released_secure, released_could, brings_from}
use Rattle.mls_ways.proofs.script.script_within.Goals as goal

pub requests_of-requests-requires-clause-secure : goal.requests_of-requests-requires-clause-secure
requests_of-requests-requires-clause-secure c =
    released_secure c.in_ok-freed.freed c.release_all.new.state c.new-releases.result.items c.release_all.new.script.items c.in_ok-release_all.ensures.releases
    (subst IsSecure (sym c.in_ok-freed.ensures) c.requires.secure)

pub requests_of-requests-requires-clause-could : goal.requests_of-requests-requires-clause-could
requests_of-requests-requires-clause-could c =
    released_could c.in_ok-freed.freed c.release_all.new.state (acts_in c.args.actors.now) c.args.access.0 c.args.access.1 c.args.access.2 c.new-releases.result.items
    c.release_all.new.script.items c.in_ok-release_all.ensures.releases
    (subst (λ z. CouldGet z (acts_in c.args.actors.now) c.args.access.0 c.args.access.1 c.args.access.2) (sym c.in_ok-freed.ensures) c.requires.could)

pub returns-in-Ok : goal.returns-in-Ok
returns-in-Ok c =
    brings_from c.args.state.now c.in_ok-freed.freed c.release_all.new.state (acts_in c.args.actors.now) c.args.access c.new-releases.result.items c.release_all.new.script.items
    c.in-Ok.requests.items c.in_ok-freed.ensures c.new-releases.ensures.items c.in_ok-release_all.ensures.releases c.in_ok-release_all.ensures.nothing c.in-Ok.ensures
