-- Scripts: requests of actors that are granted one after the other, and what they leave as it was.
use Rattle.std.proofs.Common.{◌≡◌, ℕ, Bool, true, ◌⊎◌, inl, inr, refl, sym, ap, subst, ◌∙◌}
use Rattle.std.specs.Ordering.{nat_cmp}
use Rattle.std.specs.FinMap as map
use Rattle.std.specs.FinSet as set
use Rattle.mls_labels.specs.Label.{Label}
use Rattle.mls_tables.specs.Triples.{Triple, TripleSet}
use Rattle.mls_requests.specs.declared.request.Request.{Request}
use Rattle.mls_requests.specs.declared.reply.Reply.TheVariants.{Yes}
use Rattle.mls_state.specs.State.{State, is_active}
use Rattle.mls_state.specs.Properties.{IsSecure}
use Rattle.mls_rules.specs.Rules.{is_defined, conditions, AllHold, granted, reply, change, after}
use Rattle.mls_rules.proofs.Laws.{after_secure}
use Rattle.mls_laws.specs.Journals.{is_grant}
use Rattle.mls_laws.proofs.Laws.{grants, after_grant}
use Rattle.mls_futures.specs.Closure.{HasTrusted}
use Rattle.mls_futures.specs.Futures.{HasLabelsWithin}
use Rattle.mls_futures.specs.Scripts.{Alike}

-- a script leads from a state to another one, and deletes nothing
pub data Script (acts : ℕ → Bool) : State → State → Type 0 where
  done : {v : State} → Script acts v v
  asks : {v w : State} (r : Request) → acts r.subject ≡ true → reply v r ≡ Yes
      → ((o : ℕ) → is_active v o ≡ true → is_active (after v r) o ≡ true) → Script acts (after v r) w → Script acts v w

pub and_then : (acts : ℕ → Bool) (u v w : State) → Script acts u v → Script acts v w → Script acts u w
and_then acts u v w done second = second
and_then acts u v w (asks r actor grant keeps rest) second = asks r actor grant keeps (and_then acts (after u r) v w rest second)

pub alike_itself : (acts : ℕ → Bool) (v : State) → Alike acts v v
alike_itself acts v = record {
  maximum = refl;
  subject_integrity = refl;
  trusted = refl;
  integrity = refl;
  parent = refl;
  security = refl;
  active = λ o. refl;
  label = λ o. inl refl;
  matrix = λ t there. there;
}

-- other accesses and current labels, and permissions that joined
pub alike_triples : (acts : ℕ → Bool) (v : State) (accesses matrix : TripleSet) (current : map.FinMap nat_cmp Label)
    → ((t : Triple) → set.contains v.matrix t ≡ true → set.contains matrix t ≡ true)
    → Alike acts v (record v { accesses = accesses; matrix = matrix; current = current })
alike_triples acts v accesses matrix current more = record {
  maximum = refl;
  subject_integrity = refl;
  trusted = refl;
  integrity = refl;
  parent = refl;
  security = refl;
  active = λ o. refl;
  label = λ o. inl refl;
  matrix = more;
}

pub trusted_still : (acts : ℕ → Bool) (v w : State) → w.trusted ≡ v.trusted → HasTrusted v acts → HasTrusted w acts
trusted_still acts v w same t = record { subject = t.subject; actor = t.actor; trusted = ap (λ b. set.contains b t.subject) same ∙ t.trusted }

pub alike_on : (acts : ℕ → Bool) (u v w : State) → Alike acts u v → Alike acts v w → Alike acts u w
alike_on acts u v w f g = record {
  maximum = g.maximum ∙ f.maximum;
  subject_integrity = g.subject_integrity ∙ f.subject_integrity;
  trusted = g.trusted ∙ f.trusted;
  integrity = g.integrity ∙ f.integrity;
  parent = g.parent ∙ f.parent;
  security = g.security ∙ f.security;
  active = λ o. g.active o ∙ f.active o;
  label = λ o. from o (g.label o) (f.label o);
  matrix = λ t there. g.matrix t (f.matrix t there);
} where
  from : (o : ℕ) → (map.get w.object_label o ≡ map.get v.object_label o) ⊎ HasTrusted v acts → (map.get v.object_label o ≡ map.get u.object_label o) ⊎ HasTrusted u acts
      → (map.get w.object_label o ≡ map.get u.object_label o) ⊎ HasTrusted u acts
  from o (inl later) (inl before) = inl (later ∙ before)
  from o (inl later) (inr t) = inr t
  from o (inr t) before = inr (trusted_still acts v u (sym f.trusted) t)

-- A script leads from a state to one that is like it, secure, with labels within the bounds, and of which this holds.
pub record Goes (acts : ℕ → Bool) (v : State) (P : State → Type 0) : Type 0 where
  pub last : State
  pub script : Script acts v last
  pub alike : Alike acts v last
  pub secure : IsSecure last
  pub within : HasLabelsWithin last
  pub now : P last

pub stay : (acts : ℕ → Bool) (v : State) (P : State → Type 0) → IsSecure v → HasLabelsWithin v → P v → Goes acts v P
stay acts v P h within holds = record { last = v; script = done; alike = alike_itself acts v; secure = h; within = within; now = holds }

pub goes_on : (acts : ℕ → Bool) (v : State) (P Q : State → Type 0) → Goes acts v P
    → ((w : State) → Alike acts v w → IsSecure w → HasLabelsWithin w → P w → Goes acts w Q) → Goes acts v Q
goes_on acts v P Q first later =
    let second = later first.last first.alike first.secure first.within first.now in
    record {
      last = second.last;
      script = and_then acts v first.last second.last first.script second.script;
      alike = alike_on acts v first.last second.last first.alike second.alike;
      secure = second.secure;
      within = second.within;
      now = second.now;
    }

-- A request is an actor's and is granted, and leads to a state that is like the one before, secure, with labels within
-- the bounds, and of which this holds.
pub record IsStep (acts : ℕ → Bool) (v : State) (r : Request) (P : State → Type 0) : Type 0 where
  pub actor : acts r.subject ≡ true
  pub grant : reply v r ≡ Yes
  pub alike : Alike acts v (after v r)
  pub secure : IsSecure (after v r)
  pub within : HasLabelsWithin (after v r)
  pub now : P (after v r)

pub step : (acts : ℕ → Bool) (v : State) (r : Request) (P : State → Type 0) → IsSecure v → acts r.subject ≡ true
    → is_defined v r ≡ true → AllHold (conditions v r.subject r.action) → granted v r.action ≡ Yes
    → Alike acts v (change v r.subject r.action) → HasLabelsWithin (change v r.subject r.action) → P (change v r.subject r.action)
    → IsStep acts v r P
step acts v r P h actor defined holds grant alike within now =
    let answer : reply v r ≡ Yes = grants v r defined holds ∙ grant in
    let is : after v r ≡ change v r.subject r.action = after_grant v r (ap is_grant answer) in
    record {
      actor = actor;
      grant = answer;
      alike = subst (Alike acts v) (sym is) alike;
      secure = after_secure v r h;
      within = subst HasLabelsWithin (sym is) within;
      now = subst P (sym is) now;
    }

-- one request
pub by_step : (acts : ℕ → Bool) (v : State) (r : Request) (P : State → Type 0) → IsStep acts v r P → Goes acts v P
by_step acts v r P one = record {
  last = after v r;
  script = asks r one.actor one.grant (λ o active. one.alike.active o ∙ active) done;
  alike = one.alike;
  secure = one.secure;
  within = one.within;
  now = one.now;
}
