-- Accesses that are decided by labels, beside a get of an object that has them.
use Rattle.std.specs.Prelude.{◌≡◌, ◌∷◌, ◌&&◌, ℕ, Bool, true, false, cond, List, IsTrue, is_some, refl}
use Rattle.std.proofs.Common.{sym, ap, ◌∙◌}
use Rattle.mls_facts.proofs.Entries.{at_new}
use Rattle.mls_requests.specs.declared.action.Action.TheVariants.{Get}
use Rattle.mls_requests.specs.declared.reason.Reason.{Reason}
use Rattle.mls_requests.specs.declared.reason.Reason.TheVariants.{Discretionary}
use Rattle.mls_requests.specs.declared.reply.Reply.{Reply}
use Rattle.mls_requests.specs.declared.reply.Reply.TheVariants.{Yes, Undefined}
use Rattle.mls_state.specs.State.{State, is_subject, is_active}
use Rattle.mls_state.specs.Properties.{discretionary_holds}
use Rattle.mls_rules.specs.Rules.{conditions, first_failing, reply, reply_unless}
use Rattle.mls_c.specs.LabelAsking.{get_of, HasLabels, has_bounds, label_conditions, label_reply}
use Rattle.mls_c.specs.declared.label_access.LabelAccess.{LabelAccess}

-- the conditions of a get behind the first
pub conditions_behind : (v : State) (o : ℕ) (a : LabelAccess) → HasLabels v o a
    → conditions v a.subject (Get a.mode o) ≡ (Discretionary, discretionary_holds v (a.subject, o, a.mode)) ∷ label_conditions v a
conditions_behind v o a has =
    rw (has.security, has.integrity, at_new v.object_label 0 a.security, at_new v.object_integrity 0 a.integrity) refl

left_of : (p q : Bool) → (p && q) ≡ true → p ≡ true
left_of true q both = refl
left_of false q both = both

both_of : (p q : Bool) → p ≡ true → q ≡ true → (p && q) ≡ true
both_of p q one other = rw (one, other) refl

-- what is said where all that is named is there
taken : (b : Bool) (x : Reply) → b ≡ true → cond b x Undefined ≡ x
taken b x is = ap (λ c. cond c x Undefined) is

-- a condition that holds is passed over
passed : (holds : Bool) (reason : Reason) (rest : List (Reason × Bool)) → holds ≡ true
    → reply_unless (first_failing ((reason, holds) ∷ rest)) Yes ≡ reply_unless (first_failing rest) Yes
passed holds reason rest is = ap (λ b. reply_unless (first_failing ((reason, b) ∷ rest)) Yes) is

-- the replies, where the matrix permits the get and the bounds have the labels
pub replies_alike : (v : State) (o : ℕ) (a : LabelAccess) → HasLabels v o a → IsTrue (has_bounds v a)
    → IsTrue (discretionary_holds v (a.subject, o, a.mode)) → label_reply v a ≡ reply v (get_of a o)
replies_alike v o a has bounds permits =
    let said = reply_unless (first_failing (label_conditions v a)) Yes in
    let verdict = reply_unless (first_failing (conditions v a.subject (Get a.mode o))) Yes in
    let there : is_active v o ≡ true = ap is_some has.security in
    let known : is_subject v a.subject ≡ true = left_of (is_subject v a.subject) _ bounds in
    taken (has_bounds v a) said bounds
    ∙ sym (passed (discretionary_holds v (a.subject, o, a.mode)) Discretionary (label_conditions v a) permits)
    ∙ ap (λ cs. reply_unless (first_failing cs) Yes) (sym (conditions_behind v o a has))
    ∙ sym (taken (is_subject v a.subject && is_active v o) verdict (both_of (is_subject v a.subject) (is_active v o) known there))
