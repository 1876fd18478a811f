use Rattle.std.proofs.Common.{◌≡◌, ◌<◌, ◌++◌, length, true, refl, subst, ap, ◌∙◌, arith}
use Rattle.std.specs.Prelude.{IfSome}
use Rattle.std.proofs.lemmas.Bool.Decides.{nat_tests}
use Rattle.mls_paths.specs.Ways.{IsWayTo}
use Rattle.mls_rows.specs.Rows.{bytes_of, form_of}
use Rattle.mls_flow_text.specs.Routes.{route_bytes}
use Rattle.mls_flow_text.proofs.Ways.{adds_first, adds_row}
use Rattle.mls_flow_text.proofs.visiting.with_place.Goals as goal

pub returns-then-is_empty : goal.returns-then-is_empty
returns-then-is_empty c =
    let same = c.in-Some.hops.ok.0 in
    let none : length c.in-Some.hops.items ≡ 0 = grind (arith, nat_tests, c.is_empty.ensures, c.if-is_empty.true, same) in
    adds_first c.args.names.now c.args.state.now c.args.from c.args.found.now c.args.place c.args.written c.in-Some.hops.items
    (subst (λ way. IfSome way (λ hops. IsWayTo c.args.found.now c.args.place hops.items)) c.in-Some.is c.in_ok-hops.ensures.some) none

pub returns : goal.returns
returns c =
    let same = c.in-Some.hops.ok.0 in
    let some : 0 < length c.in-Some.hops.items = grind (arith, nat_tests, c.is_empty.ensures, c.if-is_empty.false, same) in
    let old = c.args.written.output in
    adds_row c.args.names.now c.args.state.now c.args.from c.args.found.now c.args.place c.args.written (record { output = c.in_ok-output.field-0; any = true })
    c.in-Some.hops.items (subst (λ way. IfSome way (λ hops. IsWayTo c.args.found.now c.args.place hops.items)) c.in-Some.is c.in_ok-hops.ensures.some)
    (λ zero. absurd (omega (arith, some, zero))) c.in_ok-output.ensures.form
    (c.in_ok-output.ensures.bytes ∙ ap (λ hs. bytes_of old ++ route_bytes c.args.names.now (form_of old) c.args.state.now c.args.from c.args.place hs) c.deref.ensures.value) refl
