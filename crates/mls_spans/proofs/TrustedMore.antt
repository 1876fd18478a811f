-- Entries that trust granted, with one entry more.
use Rattle.std.proofs.Common.{◌≡◌, List, [], ◌∷◌, ◌++◌, refl, sym, ap, ◌∙◌, append-nil}
use Rattle.std.proofs.lemmas.List.{append_assoc}
use Rattle.mls_listings.specs.Trusted.{trusted_here, trusted_over}
use Rattle.mls_monitor.specs.Journal.{fold}
use Rattle.mls_requests.specs.declared.entry.Entry.{Entry}
use Rattle.mls_rules.specs.Rules.{after}
use Rattle.mls_state.specs.State.{State}

-- none yet
pub trusted_none : (v : State) → trusted_over v [] ≡ []
unfolding trusted_over
trusted_none v = refl

-- those among entries and the next
pub trusted-push : (v : State) (es : List Entry) (e : Entry)
    → trusted_over v (es ++ e ∷ []) ≡ trusted_over v es ++ trusted_here (fold v es) e
unfolding trusted_over
trusted-push v [] e = append-nil (trusted_here v e)
trusted-push v (x ∷ es) e =
    ap (λ t. trusted_here v x ++ t) (trusted-push (after v x.request) es e)
    ∙ sym (append_assoc (trusted_here v x) (trusted_over (after v x.request) es) (trusted_here (fold (after v x.request) es) e))
