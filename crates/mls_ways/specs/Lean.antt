-- Scripts of which no request can be left out.
use Rattle.std.specs.Prelude.{◌≡◌, ℕ, zero, suc, ◌<◌, Bool, true, false, List, [], ◌∷◌, length}
use Rattle.std.specs.FinSet as set
use Rattle.mls_tables.specs.Triples.{Triple}
use Rattle.mls_requests.specs.declared.reply.Reply.{Reply}
use Rattle.mls_requests.specs.declared.reply.Reply.TheVariants.{Yes, Created, No, Undefined}
use Rattle.mls_requests.specs.declared.request.Request.{Request}
use Rattle.mls_state.specs.State.{State}
use Rattle.mls_rules.specs.Rules.{reply, after}

-- Whether the access is held in the end, where a reply is yes; else not. (own)
abbrev pub goes_on : Reply → Bool → Bool
goes_on Yes later = later
goes_on (Created o) later = false
goes_on (No reason) later = false
goes_on Undefined later = false

-- Whether requests bring an access about: each is answered yes, in the state that those before it lead to, and the
-- access is held in the end. (own)
abbrev pub brings : State → Triple → List Request → Bool
brings v t [] = set.contains v.accesses t
brings v t (r ∷ requests) = goes_on (reply v r) (brings (after v r) t requests)

-- Requests without the one at a place. (own)
abbrev pub without : ℕ → List Request → List Request
without n [] = []
without zero (r ∷ requests) = requests
without (suc n) (r ∷ requests) = r ∷ without n requests

-- None of the requests that bring an access about can be left out alone. (own)
abbrev pub IsLean : State → Triple → List Request → Type 0
IsLean v t requests = (n : ℕ) → n < length requests → brings v t (without n requests) ≡ false
