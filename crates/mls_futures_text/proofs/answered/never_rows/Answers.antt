use Rattle.std.proofs.Common.{◌≡◌, sym, subst}
use Rattle.mls_futures.specs.Closure.{acts_in}
use Rattle.mls_futures_text.specs.Reasons.{AreReasons}
use Rattle.mls_futures_text.proofs.Never.{never}
use Rattle.mls_futures_text.proofs.Rows.{told_reasons}
use Rattle.mls_futures_text.proofs.answered.never_rows.Goals as goal

pub returns-clause-rows : goal.returns-clause-rows
returns-clause-rows c =
    let v = c.args.state.now in
    let acts = acts_in c.args.actors.now in
    let t = c.args.access.now in
    let law = c.no_future_has_what_the_closure_has_not.ensures in
    told_reasons c.args.names.now v acts t c.args.form c.deref.result.now c.written_never-listing.result
    (never v acts t.0 t.1 t.2 (law.released v acts t.0 t.1 t.2 c.requires.secure)
    (λ entries. law.held v entries acts t.0 t.1 t.2 c.requires.secure) c.requires.never)
    (subst (λ found. AreReasons v acts t found) (sym c.deref.ensures.value) c.in_ok-found.ensures) c.written_never-listing.ensures.bytes
