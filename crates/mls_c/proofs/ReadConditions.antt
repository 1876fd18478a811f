-- Conditions that are written in numbers are read back.
use Rattle.std.specs.Prelude.{◌≡◌, ◌≤◌, ℕ, ◌==◌, Bool, true, false, Option, Some, if◌then◌else◌, refl}
use Rattle.std.proofs.Common.{sym, ap, ◌∙◌, arith}
use Rattle.std.proofs.lemmas.Option.{same_Some}
use Rattle.mls_requests.specs.declared.action.Action.{Action}
use Rattle.mls_requests.specs.declared.action.Action.TheVariants.{Get, Release, Give, Rescind, Create, Delete, SubjectLevel, ObjectLevel}
use Rattle.mls_requests.specs.declared.reason.Reason.{Reason}
use Rattle.mls_requests.specs.declared.reason.Reason.TheVariants.{Discretionary, Simple, Star, Integrity, Authority, Compatibility, Ceiling, Root, Full}
use Rattle.mls_requests.specs.declared.request.Request.{Request}
use Rattle.mls_start_text.specs.Each.{having}
use Rattle.mls_state.specs.State.{State}
use Rattle.mls_explain.specs.declared.condition.Condition.{Condition}
use Rattle.mls_explain.specs.declared.ground.Ground.{Ground}
use Rattle.mls_explain.specs.declared.ground.Ground.TheVariants as rests
use Rattle.mls_explain.specs.declared.term.Term.{Term}
use Rattle.mls_explain.specs.declared.term.Term.TheVariants as term
use Rattle.mls_c.specs.Answers.{number_of_reason}
use Rattle.mls_c.specs.Conditions.{bit_of, numbers_of_term, numbers_of_basis, numbers_of_condition, condition_count, TermHasRanges, BasisHasRanges}
use Rattle.mls_c.specs.Labels.{label_of}
use Rattle.mls_c.specs.Requests.{mode_at}
use Rattle.mls_c.specs.declared.condition_numbers.ConditionNumbers.{ConditionNumbers}
use Rattle.mls_c.specs.declared.term_numbers.TermNumbers.{TermNumbers}
use Rattle.mls_c.proofs.ReadBack.{label_read, mode_read, reason_at}

-- the label that is compared that numbers say
abbrev term_at : TermNumbers → Option Term
term_at n =
    if n.kind == 1 then having (label_of n.label) (λ l. Some (term.Maximum l))
    else if n.kind == 2 then having (label_of n.label) (λ l. Some (term.Current l))
    else if n.kind == 3 then having (label_of n.label) (λ l. Some (term.Security l))
    else if n.kind == 4 then having (label_of n.label) (λ l. Some (term.Object l n.of))
    else if n.kind == 5 then having (label_of n.label) (λ l. Some (term.Integrity l))
    else if n.kind == 6 then having (label_of n.label) (λ l. Some (term.ObjectIntegrity l n.of))
    else having (label_of n.label) (λ l. Some (term.SubjectIntegrity l n.of))

term_read : (t : Term) → TermHasRanges t → term_at (numbers_of_term t) ≡ Some t
term_read (term.Maximum l) h = rw (label_read l h) refl
term_read (term.Current l) h = rw (label_read l h) refl
term_read (term.Security l) h = rw (label_read l h) refl
term_read (term.Object l o) h = rw (label_read l h) refl
term_read (term.Integrity i) h = rw (label_read i h) refl
term_read (term.ObjectIntegrity i o) h = rw (label_read i h) refl
term_read (term.SubjectIntegrity i s) h = rw (label_read i h) refl

-- what a condition rests on, of which numbers say the first of these, or else one of the last
abbrev label_basis_at : ConditionNumbers → Option Ground
label_basis_at n =
    if n.basis == 12 then having (label_of n.first.label) (λ l. Some (rests.Holdings n.subject l))
    else if n.basis == 13 then having (label_of n.first.label) (λ c. having (label_of n.second.label) (λ l. having (label_of n.third.label) (λ k.
    Some (rests.Relabelling (record { subject = n.subject; parent = n.parent; writes = n.also == 1; object = n.object; current = c; label = l; new = k })))))
    else if n.basis == 14 then having (label_of n.first.label) (λ l. Some (rests.Children n.object l))
    else if n.basis == 15 then having (label_of n.first.label) (λ k. having (label_of n.second.label) (λ l.
    Some (rests.Place (record { object = n.object; new = k; parent = n.parent; label = l; below = n.also == 1 }))))
    else if n.basis == 16 then having (label_of n.first.label) (λ l. Some (rests.Observers n.object l))
    else having (label_of n.first.label) (λ l. Some (rests.Holders n.object l))

abbrev basis_at : ConditionNumbers → Option Ground
basis_at n =
    if n.basis == 1 then having (mode_at n.mode) (λ x. Some (rests.Permission n.subject x n.object))
    else if n.basis == 2 then having (mode_at n.mode) (λ x. Some (rests.Unobserving x))
    else if n.basis == 3 then Some rests.Inert
    else if n.basis == 4 then Some (rests.Trust n.subject)
    else if n.basis == 5 then having (term_at n.first) (λ a. having (term_at n.second) (λ b. Some (rests.Dominance a b)))
    else if n.basis == 6 then having (term_at n.first) (λ a. having (term_at n.second) (λ b. Some (rests.Equality a b)))
    else if n.basis == 7 then Some (rests.Writing n.subject n.object)
    else if n.basis == 8 then Some (rests.Altering n.subject n.object)
    else if n.basis == 9 then Some (rests.Parentless n.object)
    else if n.basis == 10 then Some (rests.Number n.object)
    else if n.basis == 11 then Some (rests.Root n.object)
    else label_basis_at n

bit_read : (b : Bool) → (bit_of b == 1) ≡ b
bit_read true = refl
bit_read false = refl

reason_read : (r : Reason) → reason_at (number_of_reason r) ≡ r
reason_read Discretionary = refl
reason_read Simple = refl
reason_read Star = refl
reason_read Integrity = refl
reason_read Authority = refl
reason_read Compatibility = refl
reason_read Ceiling = refl
reason_read Root = refl
reason_read Full = refl

basis_read : (g : Ground) → BasisHasRanges g → basis_at (numbers_of_basis g) ≡ Some g
basis_read (rests.Permission s x o) h = rw (mode_read x) refl
basis_read (rests.Unobserving x) h = rw (mode_read x) refl
basis_read rests.Inert h = refl
basis_read (rests.Trust s) h = refl
basis_read (rests.Dominance a b) h = rw (term_read a h.0, term_read b h.1) refl
basis_read (rests.Equality a b) h = rw (term_read a h.0, term_read b h.1) refl
basis_read (rests.Writing s o) h = refl
basis_read (rests.Altering s o) h = refl
basis_read (rests.Parentless o) h = refl
basis_read (rests.Number n) h = refl
basis_read (rests.Root o) h = refl
basis_read (rests.Holdings s l) h = rw (label_read l h) refl
basis_read (rests.Relabelling r) h = rw (label_read r.current h.0, label_read r.label h.1, label_read r.new h.2, bit_read r.writes) refl
basis_read (rests.Children o l) h = rw (label_read l h) refl
basis_read (rests.Place p) h = rw (label_read p.new h.0, label_read p.label h.1, bit_read p.below) refl
basis_read (rests.Observers o l) h = rw (label_read l h) refl
basis_read (rests.Holders o l) h = rw (label_read l h) refl

-- the condition that numbers say
abbrev condition_at : ConditionNumbers → Option Condition
condition_at n = having (basis_at n) (λ g. Some (record { reason = reason_at n.reason; holds = n.holds == 1; basis = g }))

condition_read : (c : Condition) → BasisHasRanges c.basis → condition_at (numbers_of_condition c) ≡ Some c
condition_read c h = rw (basis_read c.basis h, reason_read c.reason, bit_read c.holds) refl

pub condition_apart : (a b : Condition) → BasisHasRanges a.basis → BasisHasRanges b.basis → numbers_of_condition a ≡ numbers_of_condition b → a ≡ b
condition_apart a b h k e = same_Some a b (sym (condition_read a h) ∙ ap condition_at e ∙ condition_read b k)

few : (v : State) (s : ℕ) (a : Action) → condition_count v (record { subject = s; action = a }) ≤ 4
few v s (Get x o) = omega arith
few v s (Release x o) = omega arith
few v s (Give x t o) = omega arith
few v s (Rescind x t o) = omega arith
few v s (Create p l i) = omega arith
few v s (Delete o) = omega arith
few v s (SubjectLevel l) = omega arith
few v s (ObjectLevel o l) = omega arith

pub few_conditions : (v : State) (r : Request) → condition_count v r ≤ 4
few_conditions v r = few v r.subject r.action
