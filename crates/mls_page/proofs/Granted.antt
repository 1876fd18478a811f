-- Whom trust alone granted something, entry by entry.
use Rattle.std.proofs.Common.{◌≡◌, ℕ, ◌+◌, ◌<◌, Bool, true, false, List, [], ◌∷◌, ◌++◌, length, take, get_or, map, refl, sym, ap, ◌∙◌, append-nil}
use Rattle.std.specs.Prelude.{if◌then◌else◌}
use Rattle.std.proofs.lemmas.List.{append_assoc, map-append, take_more}
use Rattle.mls_explain.specs.Trusting.{uses_trust}
use Rattle.mls_listings.specs.Trusted.{trusted_here, trusted_over}
use Rattle.mls_monitor.specs.Journal.{fold}
use Rattle.mls_requests.specs.declared.entry.Entry.{Entry}
use Rattle.mls_rules.specs.Rules.{after}
use Rattle.mls_state.specs.State.{State}
use Rattle.mls_page.specs.ByTrust.{trusting_here, trusting_over}

fold-push : (v : State) (es : List Entry) (e : Entry) → fold v (es ++ e ∷ []) ≡ after (fold v es) e.request
fold-push v [] e = refl
fold-push v (x ∷ es) e = fold-push (after v x.request) es e

trusted-push : (v : State) (es : List Entry) (e : Entry) → trusted_over v (es ++ e ∷ []) ≡ trusted_over v es ++ trusted_here (fold v es) e
unfolding trusted_over
trusted-push v [] e = append-nil (trusted_here v e)
trusted-push v (x ∷ es) e =
    ap (λ t. trusted_here v x ++ t) (trusted-push (after v x.request) es e)
    ∙ sym (append_assoc (trusted_here v x) (trusted_over (after v x.request) es) (trusted_here (fold (after v x.request) es) e))

-- the subject of an entry that trust granted is that of its request
one : (v : State) (e : Entry) → map (λ e. e.request.subject) (trusted_here v e) ≡ trusting_here v e.request
one v e = from (uses_trust v e.request) where
  from : (b : Bool) → map (λ e. e.request.subject) (if b then e ∷ [] else []) ≡ (if b then e.request.subject ∷ [] else [])
  from true = refl
  from false = refl

more : (es : List Entry) (n : ℕ) (e : Entry) → n < length es → e ≡ get_or es n e → take (n + 1) es ≡ take n es ++ e ∷ []
more es n e within is = take_more es n e within ∙ ap (λ k. take n es ++ k ∷ []) (sym is)

-- none yet
pub trusting_none : (v : State) (old : List ℕ) → old ≡ old ++ trusting_over v []
unfolding trusted_over
trusting_none v old = sym (append-nil old)

-- the state after the entries so far and the next
pub state_next : (v0 v w : State) (es : List Entry) (n : ℕ) (e : Entry) → n < length es → e ≡ get_or es n e → v ≡ fold v0 (take n es)
    → w ≡ after v e.request → w ≡ fold v0 (take (n + 1) es)
state_next v0 v w es n e within is so_far next =
    next ∙ ap (λ k. after k e.request) so_far ∙ sym (fold-push v0 (take n es) e) ∙ ap (fold v0) (sym (more es n e within is))

-- the subjects so far and that of the next
pub trusting_next : (v0 v : State) (es : List Entry) (n : ℕ) (e : Entry) (old found new : List ℕ) → n < length es → e ≡ get_or es n e
    → v ≡ fold v0 (take n es) → found ≡ old ++ trusting_over v0 (take n es) → new ≡ found ++ trusting_here v e.request
    → new ≡ old ++ trusting_over v0 (take (n + 1) es)
trusting_next v0 v es n e old found new within is folded so_far pushed =
    let here = trusting_over v0 (take n es) in
    pushed ∙ ap (λ t. t ++ trusting_here v e.request) so_far ∙ append_assoc old here (trusting_here v e.request)
    ∙ ap (λ t. old ++ (here ++ t)) (sym (one v e)) ∙ ap (λ w. old ++ (here ++ map (λ e. e.request.subject) (trusted_here w e))) folded
    ∙ ap (λ t. old ++ t)
    (sym (map-append (λ e. e.request.subject) (trusted_over v0 (take n es)) (trusted_here (fold v0 (take n es)) e))
    ∙ ap (map (λ e. e.request.subject)) (sym (trusted-push v0 (take n es) e) ∙ ap (trusted_over v0) (sym (more es n e within is))))
