-- The spans of states in which a get would be granted.
use Rattle.std.specs.Prelude.{ℕ, Bool, true, false, List, [], ◌∷◌, ◌++◌, Option, Some, None, if◌then◌else◌}
use Rattle.mls_requests.specs.declared.action.Action.TheVariants.{Get}
use Rattle.mls_requests.specs.declared.entry.Entry.{Entry}
use Rattle.mls_requests.specs.declared.request.Request.{Request}
use Rattle.mls_rules.specs.Rules.{reply, after}
use Rattle.mls_state.specs.State.{State}
use Rattle.mls_tables.specs.Triples.{Triple}
use Rattle.mls_spans.specs.Sweeping.{is_granted}
use Rattle.mls_spans.specs.declared.window.Window.{Window}

-- The get of an access. (MTR-2997, the request to get access)
abbrev pub get_of : Triple → Request
get_of t = record { subject = t.0; action = Get t.2 t.1 }

-- The get of an access would be granted in a state. (MTR-2997, decision yes to a request to get access)
abbrev pub would_grant : State → Triple → Bool
would_grant v t = is_granted (reply v (get_of t))

-- A turn at this place, where what was so and what is so are not the same. (own)
abbrev pub turned : Bool → Bool → Option ℕ → List (Option ℕ)
turned was is place = if was then (if is then [] else place ∷ []) else (if is then place ∷ [] else [])

-- The numbers of the entries after which the answer to the get of an access is another than before them. (own)
abbrev pub turns_after : State → List Entry → Triple → List (Option ℕ)
turns_after v [] t = []
turns_after v (e ∷ entries) t =
    turned (would_grant v t) (would_grant (after v e.request) t) (Some e.number)
    ++ turns_after (after v e.request) entries t

-- Where the answer to the get of an access turns: at the first state, where it would be granted in it, and after
-- entries. (own)
abbrev pub turns : State → List Entry → Triple → List (Option ℕ)
turns v entries t = turned false (would_grant v t) None ++ turns_after v entries t

-- Between turns, from each first of two to the second: what is granted from one on is granted up to the next, or, where
-- there is none, up to the last state. (own)
abbrev pub between : List (Option ℕ) → List Window
between [] = []
between (a ∷ []) = record { opened = a; closed = None } ∷ []
between (a ∷ b ∷ rest) = record { opened = a; closed = b } ∷ between rest

-- The spans of the states that entries lead through from a state, in which the get of an access would be granted, each
-- as long as it is. (own)
abbrev pub windows : State → List Entry → Triple → List Window
windows v entries t = between (turns v entries t)

-- There is a span. (own)
abbrev pub is_any : List Window → Bool
is_any [] = false
is_any (window ∷ rest) = true
