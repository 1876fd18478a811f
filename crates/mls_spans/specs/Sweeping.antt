-- What a state makes of spans that aren't ended yet.
use Rattle.std.specs.Prelude.{◌≡◌, ℕ, ◌<◌, Bool, not, true, false, ◌&&◌, ◌||◌, ◌==◌, IsTrue, is_none, List, [], ◌∷◌}
use Rattle.std.specs.Prelude.{◌++◌, map, length, get_or, Option, Some, None, if◌then◌else◌}
use Rattle.std.specs.List.{list_any, list_all}
use Rattle.mls_requests.specs.declared.action.Action.{Action}
use Rattle.mls_requests.specs.declared.action.Action.TheVariants.{Get, Release, Give, Rescind, Create, Delete}
use Rattle.mls_requests.specs.declared.action.Action.TheVariants.{SubjectLevel, ObjectLevel}
use Rattle.mls_requests.specs.declared.entry.Entry.{Entry}
use Rattle.mls_requests.specs.declared.reply.Reply.{Reply}
use Rattle.mls_requests.specs.declared.reply.Reply.TheVariants.{Yes, Created, No, Undefined}
use Rattle.mls_state.specs.State.{State}
use Rattle.mls_tables.specs.Triples.{Triple}
use Rattle.mls_spans.specs.Spans.{is_held, span_of, ending_of}
use Rattle.mls_spans.specs.declared.span.Ending.{Ending}
use Rattle.mls_spans.specs.declared.span.Span.{Span}

-- A span isn't ended. (own)
abbrev pub is_open : Span → Bool
is_open span = is_none span.ended

-- A span isn't ended, though its access isn't held any more. (own)
abbrev pub is_lost : State → Span → Bool
is_lost v span = is_open span && not (is_held v span.access)

-- A span that is ended where it is lost. (own)
abbrev pub closed : State → Ending → Span → Span
closed v ending span = if is_lost v span then record span { ended = Some ending } else span

-- The places of all spans that aren't ended are among these. (own)
abbrev pub AreAmong : List Span → List ℕ → Type 0
AreAmong spans places = (i : ℕ) (d : Span) → i < length spans → IsTrue (is_open (get_or spans i d))
    → IsTrue (list_any (λ k. i == k) places)

-- Some of the spans are ended where they are lost, and it is left to look at these places: what is kept and what is
-- left has the places of all that aren't ended. (own)
pub record Sweeps (w : State) (x : Ending) (first spans : List Span) (left kept : List ℕ) : Type 0 where
  pub same : map (closed w x) spans ≡ map (closed w x) first
  pub lost : (i : ℕ) (d : Span) → i < length spans → IsTrue (is_lost w (get_or spans i d))
      → IsTrue (list_any (λ k. i == k) left)
  pub among : (i : ℕ) (d : Span) → i < length spans → IsTrue (is_open (get_or spans i d))
      → IsTrue (list_any (λ k. i == k) kept || list_any (λ k. i == k) left)

-- A reply grants what was asked. (own)
abbrev pub is_granted : Reply → Bool
is_granted Yes = true
is_granted (Created o) = true
is_granted (No reason) = false
is_granted Undefined = false

-- A span is ended, or its access is held. (own)
abbrev pub stands : State → Span → Bool
stands v span = not (is_open span) || is_held v span.access

-- Each span is ended, or its access is held. (own)
abbrev pub AllStand : State → List Span → Type 0
AllStand v spans = IsTrue (list_all (stands v) spans)

-- The access that an action asks for, where it isn't held. (own)
abbrev pub sought : State → ℕ → Action → Option Triple
sought v s (Get x o) = if is_held v (s, o, x) then None else Some (s, o, x)
sought v s (Release x o) = None
sought v s (Give x t o) = None
sought v s (Rescind x t o) = None
sought v s (Create p l i) = None
sought v s (Delete o) = None
sought v s (SubjectLevel l) = None
sought v s (ObjectLevel o l) = None

-- The span of an access that is sought, where a state has it. (own)
abbrev pub begins : State → ℕ → Option Triple → List Span
begins w number None = []
begins w number (Some t) =
    if is_held w t then span_of t (Some number) None ∷ [] else []

-- The spans that are ended where a state has lost them, and the one of what was sought and is held in it. (own)
abbrev pub moved : State → Entry → Option Triple → List Span → List Span
moved w e asked spans = map (closed w (ending_of e)) spans ++ begins w e.number asked

-- Whether an action may take accesses away. (own)
abbrev pub may_take : Action → Bool
may_take (Get x o) = false
may_take (Release x o) = true
may_take (Give x t o) = false
may_take (Rescind x t o) = true
may_take (Create p l i) = false
may_take (Delete o) = true
may_take (SubjectLevel l) = false
may_take (ObjectLevel o l) = false
