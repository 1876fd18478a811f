-- Whom trust alone granted something.
use Rattle.std.specs.Prelude.{ℕ, List, [], ◌∷◌, map, if◌then◌else◌}
use Rattle.mls_explain.specs.Trusting.{uses_trust}
use Rattle.mls_listings.specs.Trusted.{trusted_over}
use Rattle.mls_requests.specs.declared.entry.Entry.{Entry}
use Rattle.mls_requests.specs.declared.request.Request.{Request}
use Rattle.mls_state.specs.State.{State}

-- The subject of a request, where trust alone grants it in a state. (own)
abbrev pub trusting_here : State → Request → List ℕ
trusting_here v r = if uses_trust v r then r.subject ∷ [] else []

-- The subjects of the entries after a state that trust alone granted, one for each of these. (own)
abbrev pub trusting_over : State → List Entry → List ℕ
trusting_over v entries = map (λ e. e.request.subject) (trusted_over v entries)
