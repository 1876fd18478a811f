-- What the rules ask of those who change permissions, and of those who create.
use Rattle.std.proofs.Common.{◌≡◌, ℕ, Bool, true, false, [], ◌∷◌, Some, refl, sym, true≢false}
use Rattle.std.specs.Prelude.{◌&&◌, ◌||◌, nat_lt, if◌then◌else◌}
use Rattle.std.specs.FinSet as set
use Rattle.std.specs.FinMap as map
use Rattle.std.proofs.lemmas.Bool.{and_parts}
use Rattle.mls_labels.specs.Label.{Label, has_label}
use Rattle.mls_labels.proofs.Laws.{reflexive}
use Rattle.mls_tables.specs.declared.limits.TheConstants.{MAX_OBJECTS}
use Rattle.mls_tables.specs.declared.mode.Mode.{Mode}
use Rattle.mls_tables.specs.declared.mode.Mode.TheVariants.{Append, Write}
use Rattle.mls_requests.specs.declared.action.Action.TheVariants.{Give, Rescind, Create}
use Rattle.mls_requests.specs.declared.reason.Reason.TheVariants.{Authority, Compatibility, Integrity, Full}
use Rattle.mls_requests.specs.declared.reply.Reply.TheVariants.{Created, Undefined}
use Rattle.mls_state.specs.State.{State, is_subject, is_active, is_above}
use Rattle.mls_rules.specs.Rules.{reply_unless, first_failing}
use Rattle.mls_review.specs.Powers.{is_granted, may, has_power}
use Rattle.mls_review.specs.declared.power.Power.TheVariants.{Gives, Creates}

gives : (b : Bool) (v : State) (s t o : ℕ) (x : Mode) → is_subject v s ≡ b → is_subject v t ≡ true
    → (may v s (Give x t o) ≡ has_power v s Gives o) × (may v s (Rescind x t o) ≡ has_power v s Gives o)
gives true v s t o x caller other = rw (caller, other) (refl, refl)
gives false v s t o x caller other = rw caller (refl, refl)

pub gives_alike : (v : State) (s t o : ℕ) (x : Mode) → is_subject v t ≡ true
    → (may v s (Give x t o) ≡ has_power v s Gives o) × (may v s (Rescind x t o) ≡ has_power v s Gives o)
gives_alike v s t o x other = gives (is_subject v s) v s t o x refl other

-- what a create that is granted says
opened : (d a c i f : Bool) (n : ℕ)
    → is_granted (if d then reply_unless (first_failing ((Authority, a) ∷ (Compatibility, c) ∷ (Integrity, i) ∷ (Full, f) ∷ [])) (Created n) else Undefined) ≡ true
    → (d ≡ true) × (a ≡ true) × (f ≡ true)
opened false a c i f n is = absurd (true≢false (sym is))
opened true false c i f n is = absurd (true≢false (sym is))
opened true true false i f n is = absurd (true≢false (sym is))
opened true true true false f n is = absurd (true≢false (sym is))
opened true true true true false n is = absurd (true≢false (sym is))
opened true true true true true n is = (refl, refl, refl)

pub creates_alike : (v : State) (s p : ℕ) (l i security integrity : Label) → map.get v.object_label p ≡ Some security
    → map.get v.object_integrity p ≡ Some integrity → has_label v.security security ≡ true → has_label v.integrity integrity ≡ true
    → may v s (Create p l i) ≡ true → has_power v s Creates p ≡ true
creates_alike v s p l i security integrity label own within own_within granted =
    let said = opened
    (is_subject v s && (is_active v p && (has_label v.security l && has_label v.integrity i)))
    (set.contains v.accesses (s, p, Append) || set.contains v.accesses (s, p, Write))
    (is_above (Some l) (map.get v.object_label p)) (is_above (map.get v.object_integrity p) (Some i)) (nat_lt v.next MAX_OBJECTS) v.next granted in
    let known = and_parts (is_subject v s) (is_active v p && (has_label v.security l && has_label v.integrity i)) said.0 in
    let active = (and_parts (is_active v p) (has_label v.security l && has_label v.integrity i) known.1).0 in
    let above : is_above (Some security) (map.get v.object_label p) ≡ true = rw label (reflexive security) in
    let below : is_above (map.get v.object_integrity p) (Some integrity) ≡ true = rw own (reflexive integrity) in
    rw (label, own, known.0, active, within, own_within, said.1, above, below, said.2) refl
