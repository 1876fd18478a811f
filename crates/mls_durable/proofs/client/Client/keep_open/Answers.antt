use Rattle.std.proofs.Common.{[], refl}
use Rattle.mls_durable.specs.Batches.{pending}
use Rattle.mls_durable.proofs.Batching.{given_up}
use Rattle.mls_durable.proofs.Histories.{known_map}
use Rattle.mls_scripts.specs.Script.{standing_of}
use Rattle.mls_durable.proofs.client.Client.keep_open.Goals as goal

pub returns-then-is_err-clause-steps : goal.returns-then-is_err-clause-steps
returns-then-is_err-clause-steps g c =
    let now = standing_of c.args.self.now.batch.vars.bound c.args.monitor.now in
    known_map _ _ _ _ (λ h k yields. given_up c.args.names.now c.args.protocol (Unit {0}) (pending now c.args.self.now.batch)
    (pending (standing_of c.give_up.new.self.vars.bound c.args.monitor.now) c.give_up.new.self) [] h k c.give_up.result refl yields)
    (c.give_up.ensures.yields c.args.names.now c.args.protocol now)
