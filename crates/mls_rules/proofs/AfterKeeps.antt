-- What a state has, and what each granted change keeps, the state after any request has.
use Rattle.std.proofs.Common.{◌≡◌, Bool, true, false, List, [], ◌∷◌, refl, if◌then◌else◌}
use Rattle.mls_requests.specs.declared.request.Request.{Request}
use Rattle.mls_requests.specs.declared.reason.Reason.{Reason}
use Rattle.mls_requests.specs.declared.reply.Reply.{Reply}
use Rattle.mls_requests.specs.declared.reply.Reply.TheVariants.{Yes, Created, No, Undefined}
use Rattle.mls_state.specs.State.{State}
use Rattle.mls_rules.specs.Rules.{conditions, AllHold, granted, first_failing, reply_unless, is_defined, reply, change, after_reply, after}

-- the request is in the domain, and every condition of its action holds
abbrev pub IsGranted : State → Request → Type 0
IsGranted v r = (is_defined v r ≡ true) × AllHold (conditions v r.subject r.action)

module _ (P : State → Type 0) where
  granted_keeps : (cs : List (Reason × Bool)) (grant : Reply) (old new : State) → P old → (AllHold cs → P new)
      → P (after_reply (reply_unless (first_failing cs) grant) old new)
  granted_keeps [] Yes old new kept changed = changed tt
  granted_keeps [] (Created o) old new kept changed = changed tt
  granted_keeps [] (No reason) old new kept changed = kept
  granted_keeps [] Undefined old new kept changed = kept
  granted_keeps ((reason, true) ∷ rest) grant old new kept changed = granted_keeps rest grant old new kept (λ holds. changed (refl, holds))
  granted_keeps ((reason, false) ∷ rest) grant old new kept changed = kept

  reply_keeps : (defined : Bool) (cs : List (Reason × Bool)) (grant : Reply) (old new : State) → P old
      → (defined ≡ true → AllHold cs → P new)
      → P (after_reply (if defined then reply_unless (first_failing cs) grant else Undefined) old new)
  reply_keeps true cs grant old new kept changed = granted_keeps cs grant old new kept (changed refl)
  reply_keeps false cs grant old new kept changed = kept

-- what holds of a state, and of its change where the request is granted, holds after the request
pub after_keeps : (P : State → Type 0) (v : State) (r : Request) → P v → (IsGranted v r → P (change v r.subject r.action)) → P (after v r)
after_keeps P v r kept changed =
    let cs = conditions v r.subject r.action in
    let new = change v r.subject r.action in
    reply_keeps P (is_defined v r) cs (granted v r.action) v new kept (λ defined holds. changed (defined, holds))

-- whether a reply is a grant
abbrev pub is_grant : Reply → Bool
is_grant Yes = true
is_grant (Created o) = true
is_grant (No reason) = false
is_grant Undefined = false

unless_holds : (cs : List (Reason × Bool)) (grant : Reply) → is_grant (reply_unless (first_failing cs) grant) ≡ true → AllHold cs
unless_holds [] grant is = tt
unless_holds ((reason, true) ∷ rest) grant is = (refl, unless_holds rest grant is)
unless_holds ((reason, false) ∷ rest) grant is = cc

in_domain : (defined : Bool) (cs : List (Reason × Bool)) (grant : Reply) → is_grant (if defined then reply_unless (first_failing cs) grant else Undefined) ≡ true → AllHold cs
in_domain true cs grant is = unless_holds cs grant is
in_domain false cs grant is = cc

-- every condition of a request that is granted holds
pub grant_holds : (v : State) (r : Request) → is_grant (reply v r) ≡ true → AllHold (conditions v r.subject r.action)
grant_holds v r grant = in_domain (is_defined v r) (conditions v r.subject r.action) (granted v r.action) grant
