use Rattle.std.proofs.Common.{◌≡◌, false, sym}
use Rattle.std.proofs.lemmas.Bool.{and_left, and_right}
use Rattle.mls_state.specs.State.{is_subject, is_active}
use Rattle.mls_state.specs.StateView.{state_of}
use Rattle.mls_state.proofs.Tables.{access_row, access_column, no_access}
use Rattle.mls_state.proofs.state.State.has_access.Goals as goal

pub contains-requires-clause-subject : goal.contains-requires-clause-subject
contains-requires-clause-subject g c = access_row c.self.inside c.self.invariant c.args.s (rw (← c.self.view_is) at (sym c.if-not-is_subject.ensures))

pub contains-requires-clause-object : goal.contains-requires-clause-object
contains-requires-clause-object g c = access_column c.self.inside c.self.invariant c.args.o (rw (← c.self.view_is) at (sym c.if-not-is_active.ensures))

pub returns-then-not-is_subject : goal.returns-then-not-is_subject
returns-then-not-is_subject g c =
    let unknown : is_subject (state_of c.self.inside) c.args.s ≡ false = rw (← c.self.view_is) at (sym c.if-not-is_subject.ensures) in
    rw (← c.self.view_is) (sym (no_access c.self.inside c.self.invariant (c.args.s, c.args.o, c.args.x) (and_left _ _ unknown)))

pub returns-then-not-is_active : goal.returns-then-not-is_active
returns-then-not-is_active g c =
    let inactive : is_active (state_of c.self.inside) c.args.o ≡ false = rw (← c.self.view_is) at (sym c.if-not-is_active.ensures) in
    rw (← c.self.view_is) (sym (no_access c.self.inside c.self.invariant (c.args.s, c.args.o, c.args.x) (and_right _ _ inactive)))
