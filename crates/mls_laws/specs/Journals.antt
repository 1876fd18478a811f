-- What is said of the requests and the entries along which a state changes.
use Rattle.std.specs.Prelude.{ℕ, Bool, true, false, IsTrue, List, [], ◌∷◌, filter, take}
use Rattle.mls_requests.specs.declared.request.Request.{Request}
use Rattle.mls_requests.specs.declared.reply.Reply.{Reply}
use Rattle.mls_requests.specs.declared.reply.Reply.TheVariants.{Yes, Created, No, Undefined}
use Rattle.mls_requests.specs.declared.entry.Entry.{Entry}
use Rattle.mls_state.specs.State.{State, is_active}
use Rattle.mls_rules.specs.Rules.{after}
use Rattle.mls_monitor.specs.Journal.{fold}

-- Run: the state after some requests, in their order. (MTR-2997, the system's state sequence)
abbrev pub run : State → List Request → State
run v [] = v
run v (r ∷ requests) = run (after v r) requests

-- An object is active all along a journal: in the first state, and after each of its entries. (own)
abbrev pub StaysActive : State → List Entry → ℕ → Type 0
StaysActive v entries o = (n : ℕ) → IsTrue (is_active (fold v (take n entries)) o)

-- Whether a reply is a grant. (MTR-2997, decision yes)
abbrev pub is_grant : Reply → Bool
is_grant Yes = true
is_grant (Created o) = true
is_grant (No reason) = false
is_grant Undefined = false

-- A journal without the entries that were denied or undefined. (own)
abbrev pub granted_only : List Entry → List Entry
granted_only entries = filter (λ e. is_grant e.reply) entries
