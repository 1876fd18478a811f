use Rattle.std.proofs.Common.{rules, ◌≡◌, subst}
use Rattle.mls_futures.specs.Closure.{acts_in}
use Rattle.mls_ways.specs.Brings.{BringsLeanly}
use Rattle.mls_futures_text.proofs.Rows.{told_script}
use Rattle.mls_futures_text.proofs.answered.script_rows.Goals as goal

pub returns-clause-rows : goal.returns-clause-rows
returns-clause-rows c =
    let v = c.args.state.now in
    let acts = acts_in c.args.actors.now in
    let t = c.args.access.now in
    let releases : c.in_ok-releases.field-0.releases.items ≡ c.deref.result.now = search rules in
    let requests : c.in_ok-releases.field-0.requests.items ≡ c.deref-2.result.now = search rules in
    told_script c.args.names.now v acts t c.args.form c.deref.result.now c.deref-2.result.now c.written_script-listing.result
    (λ within. (c.what_the_closure_has_comes_about.ensures v acts t.0 t.1 t.2 c.requires.secure c.agrees.ensures.whole within).0 c.requires.could)
    (λ within. subst (λ xs. BringsLeanly v acts t xs c.deref-2.result.now) releases
    (subst (λ ys. BringsLeanly v acts t c.in_ok-releases.field-0.releases.items ys) requests (c.in_ok-releases.ensures within))) c.written_script-listing.ensures.bytes
