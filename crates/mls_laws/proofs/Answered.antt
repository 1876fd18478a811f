-- What a reply tells of the request, and journals whose replies are those of the rules, entry by entry.
use Rattle.std.proofs.Common.{◌≡◌, ℕ, zero, suc, Bool, true, false, List, [], ◌∷◌, ◌++◌, take, cond, Some, refl, sym, ap, subst, ◌∙◌, if◌then◌else◌}
use Rattle.std.specs.Prelude.{slice_get}
use Rattle.mls_requests.specs.declared.request.Request.{Request}
use Rattle.mls_requests.specs.declared.reason.Reason.{Reason}
use Rattle.mls_requests.specs.declared.reply.Reply.{Reply}
use Rattle.mls_requests.specs.declared.reply.Reply.TheVariants.{Yes, Created, No, Undefined}
use Rattle.mls_requests.specs.declared.entry.Entry.{Entry}
use Rattle.mls_state.specs.State.{State}
use Rattle.mls_state.specs.Properties.{IsSecure}
use Rattle.mls_rules.specs.Rules.{is_defined, conditions, AllHold, first_failing, granted, reply_unless, reply, change, after, after_reply}
use Rattle.mls_rules.proofs.Laws.{after_secure}
use Rattle.mls_monitor.specs.Journal.{fold, IsLegal}
use Rattle.mls_laws.specs.Journals.{is_grant, granted_only}

from_grant : (d : Bool) (cs : List (Reason × Bool)) (grant : Reply) → is_grant (if d then reply_unless (first_failing cs) grant else Undefined) ≡ true
    → (d ≡ true) × AllHold cs × ((if d then reply_unless (first_failing cs) grant else Undefined) ≡ grant)
from_grant true [] grant is = (refl, tt, refl)
from_grant true ((reason, true) ∷ rest) grant is = let later = from_grant true rest grant is in (refl, (refl, later.1), later.2)
from_grant true ((reason, false) ∷ rest) grant is = cc
from_grant false cs grant is = cc

-- what is granted is in the domain, all its conditions hold, and it is answered so
pub granted_from : (v : State) (r : Request) → is_grant (reply v r) ≡ true
    → (is_defined v r ≡ true) × AllHold (conditions v r.subject r.action) × (reply v r ≡ granted v r.action)
granted_from v r is = from_grant (is_defined v r) (conditions v r.subject r.action) (granted v r.action) is

none_fails : (cs : List (Reason × Bool)) (grant : Reply) → AllHold cs → reply_unless (first_failing cs) grant ≡ grant
none_fails [] grant holds = refl
none_fails ((reason, true) ∷ rest) grant holds = none_fails rest grant holds.1
none_fails ((reason, false) ∷ rest) grant holds = let wrong : false ≡ true = holds.0 in cc

granted_where : (d : Bool) (cs : List (Reason × Bool)) (grant : Reply) → d ≡ true → AllHold cs
    → (if d then reply_unless (first_failing cs) grant else Undefined) ≡ grant
granted_where true cs grant is holds = none_fails cs grant holds
granted_where false cs grant is holds = cc

-- what is in the domain, and all of whose conditions hold, is granted
pub grants : (v : State) (r : Request) → is_defined v r ≡ true → AllHold (conditions v r.subject r.action) → reply v r ≡ granted v r.action
grants v r defined all = granted_where (is_defined v r) (conditions v r.subject r.action) (granted v r.action) defined all

no_grant : (x : Reply) (old new : State) → is_grant x ≡ false → after_reply x old new ≡ old
no_grant Yes old new is = cc
no_grant (Created o) old new is = cc
no_grant (No reason) old new is = refl
no_grant Undefined old new is = refl

a_grant : (x : Reply) (old new : State) → is_grant x ≡ true → after_reply x old new ≡ new
a_grant Yes old new is = refl
a_grant (Created o) old new is = refl
a_grant (No reason) old new is = cc
a_grant Undefined old new is = cc

-- what isn't granted changes nothing, what is granted changes the state as its action says
pub after_no_grant : (v : State) (r : Request) → is_grant (reply v r) ≡ false → after v r ≡ v
after_no_grant v r is = no_grant (reply v r) v (change v r.subject r.action) is

pub after_grant : (v : State) (r : Request) → is_grant (reply v r) ≡ true → after v r ≡ change v r.subject r.action
after_grant v r is = a_grant (reply v r) v (change v r.subject r.action) is

pub after_denied : (v : State) (r : Request) (reason : Reason) → reply v r ≡ No reason → after v r ≡ v
after_denied v r reason is = after_no_grant v r (ap is_grant is)

pub after_undefined : (v : State) (r : Request) → reply v r ≡ Undefined → after v r ≡ v
after_undefined v r is = after_no_grant v r (ap is_grant is)

-- what holds of the state where the request isn't granted, and of its change where it is, holds after it
pub by_reply : (P : State → Type 0) (v : State) (r : Request) → P v
    → (is_grant (reply v r) ≡ true → P (change v r.subject r.action)) → P (after v r)
by_reply P v r old new = from (is_grant (reply v r)) refl where
  from : (b : Bool) → is_grant (reply v r) ≡ b → P (after v r)
  from true is = subst P (sym (after_grant v r is)) (new is)
  from false is = subst P (sym (after_no_grant v r is)) old

-- what holds of a state, and after each request where it holds, holds of each fold
pub fold_keeps : (P : State → Type 0) → ((v : State) (r : Request) → P v → P (after v r)) → (v : State) (entries : List Entry) → P v → P (fold v entries)
fold_keeps P step v [] h = h
fold_keeps P step v (e ∷ entries) h = fold_keeps P step (after v e.request) entries (step v e.request h)

pub fold_secure : (v : State) (entries : List Entry) → IsSecure v → IsSecure (fold v entries)
fold_secure v entries h = fold_keeps IsSecure after_secure v entries h

pub fold-append : (v : State) (front rest : List Entry) → fold v (front ++ rest) ≡ fold (fold v front) rest
fold-append v [] rest = refl
fold-append v (e ∷ front) rest = fold-append (after v e.request) front rest

-- each entry has the reply that the rules give in the state that those before it led to
abbrev pub IsRun : State → List Entry → Type 0
IsRun v [] = Unit {0}
IsRun v (e ∷ entries) = (e.reply ≡ reply v e.request) × IsRun (after v e.request) entries

run_of : (v : State) (entries : List Entry) → ((n : ℕ) (e : Entry) → slice_get entries n ≡ Some e → e.reply ≡ reply (fold v (take n entries)) e.request) → IsRun v entries
run_of v [] known = tt
run_of v (e ∷ entries) known = (known zero e refl, run_of (after v e.request) entries (λ n f at. known (suc n) f at))

pub legal_run : (v : State) (entries : List Entry) → IsLegal v entries → IsRun v entries
legal_run v entries legal = run_of v entries (λ n e at. (legal n e at).reply)

pub run_rest : (v : State) (front rest : List Entry) → IsRun v (front ++ rest) → IsRun (fold v front) rest
run_rest v [] rest run = run
run_rest v (e ∷ front) rest run = run_rest (after v e.request) front rest run.1

fold_granted : (v : State) (entries : List Entry) → IsRun v entries → fold v (granted_only entries) ≡ fold v entries
fold_granted v [] run = refl
fold_granted v (e ∷ entries) run = from (is_grant e.reply) refl (fold_granted (after v e.request) entries run.1) where
  from : (b : Bool) → is_grant e.reply ≡ b → fold (after v e.request) (granted_only entries) ≡ fold (after v e.request) entries
      → fold v (cond (is_grant e.reply) (e ∷ granted_only entries) (granted_only entries)) ≡ fold (after v e.request) entries
  from true is rest = ap (λ b. fold v (cond b (e ∷ granted_only entries) (granted_only entries))) is ∙ rest
  from false is rest =
      let same : after v e.request ≡ v = after_no_grant v e.request (sym (ap is_grant run.0) ∙ is) in
      ap (λ b. fold v (cond b (e ∷ granted_only entries) (granted_only entries))) is ∙ ap (λ w. fold w (granted_only entries)) (sym same) ∙ rest

granted_run : (v : State) (entries : List Entry) → IsRun v entries → IsRun v (granted_only entries)
granted_run v [] run = tt
granted_run v (e ∷ entries) run = from (is_grant e.reply) refl (granted_run (after v e.request) entries run.1) where
  from : (b : Bool) → is_grant e.reply ≡ b → IsRun (after v e.request) (granted_only entries) → IsRun v (cond (is_grant e.reply) (e ∷ granted_only entries) (granted_only entries))
  from true is rest = subst (λ b. IsRun v (cond b (e ∷ granted_only entries) (granted_only entries))) (sym is) (run.0, rest)
  from false is rest =
      let same : after v e.request ≡ v = after_no_grant v e.request (sym (ap is_grant run.0) ∙ is) in
      subst (λ b. IsRun v (cond b (e ∷ granted_only entries) (granted_only entries))) (sym is) (subst (λ w. IsRun w (granted_only entries)) same rest)

run_at : (v : State) (entries : List Entry) → IsRun v entries → (n : ℕ) (e : Entry) → slice_get entries n ≡ Some e → e.reply ≡ reply (fold v (take n entries)) e.request
run_at v [] run n e at = cc
run_at v (f ∷ entries) run zero e at = let same : f ≡ e = cc in subst (λ (g : Entry). g.reply ≡ reply v g.request) same run.0
run_at v (f ∷ entries) run (suc n) e at = run_at (after v f.request) entries run.1 n e at

-- without what wasn't granted the state is the same, and so is each reply
pub state_without : (v : State) (entries : List Entry) → IsLegal v entries → fold v (granted_only entries) ≡ fold v entries
state_without v entries legal = fold_granted v entries (legal_run v entries legal)

pub replies_without : (v : State) (entries : List Entry) (n : ℕ) (e : Entry) → IsLegal v entries → slice_get (granted_only entries) n ≡ Some e
    → e.reply ≡ reply (fold v (take n (granted_only entries))) e.request
replies_without v entries n e legal at = run_at v (granted_only entries) (granted_run v entries (legal_run v entries legal)) n e at
