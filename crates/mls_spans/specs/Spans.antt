-- The spans of states in which an access is held.
use Rattle.std.specs.Prelude.{ℕ, Bool, not, ◌&&◌, List, [], ◌∷◌, ◌++◌, map, Option, Some, None, if◌then◌else◌}
use Rattle.std.specs.FinSet as set
use Rattle.mls_requests.specs.ActionWords.{word_of_action}
use Rattle.mls_requests.specs.declared.action.Action.{Action}
use Rattle.mls_requests.specs.declared.action.Action.TheVariants.{Get, Release, Give, Rescind, Create, Delete}
use Rattle.mls_requests.specs.declared.action.Action.TheVariants.{SubjectLevel, ObjectLevel}
use Rattle.mls_requests.specs.declared.entry.Entry.{Entry}
use Rattle.mls_rules.specs.Rules.{after}
use Rattle.mls_state.specs.State.{State}
use Rattle.mls_tables.specs.Once.{by_subject}
use Rattle.mls_tables.specs.Triples.{Triple}
use Rattle.mls_tables.specs.declared.limits.TheConstants.{MAX_SUBJECTS}
use Rattle.mls_spans.specs.declared.span.Ending.{Ending}
use Rattle.mls_spans.specs.declared.span.Span.{Span}

-- An access is held in a state. (own)
abbrev pub is_held : State → Triple → Bool
is_held v t = set.contains v.accesses t

-- What is told of an entry that ends an access: its number and its word. (own)
abbrev pub ending_of : Entry → Ending
ending_of e = record { number = e.number; word = word_of_action e.request.action }

-- Of an access that is held in a state, and the entries that follow it: the first after which it isn't held. (own)
abbrev pub ended : State → List Entry → Triple → Option Ending
ended v [] t = None
ended v (e ∷ entries) t =
    if is_held (after v e.request) t then ended (after v e.request) entries t else Some (ending_of e)

-- A span of these parts. (own)
abbrev pub span_of : Triple → Option ℕ → Option Ending → Span
span_of t made ended = record { access = t; made = made; ended = ended }

-- The span of an access that a state has, where this entry made it, or none did, and these follow. (own)
abbrev pub span_from : Option ℕ → State → List Entry → Triple → Span
span_from made v entries t = span_of t made (ended v entries t)

-- The accesses of a state that another one lacks, of these. (own)
abbrev pub gained : State → State → Triple → List Triple
gained v w t = if not (is_held v t) && is_held w t then t ∷ [] else []

-- The access that an entry makes: the one that it asks for, where it is held after it and not before. (own)
abbrev pub made_by : State → State → ℕ → Action → List Triple
made_by v w s (Get x o) = gained v w (s, o, x)
made_by v w s (Release x o) = []
made_by v w s (Give x t o) = []
made_by v w s (Rescind x t o) = []
made_by v w s (Create p l i) = []
made_by v w s (Delete o) = []
made_by v w s (SubjectLevel l) = []
made_by v w s (ObjectLevel o l) = []

-- The spans that an entry begins, where these entries follow it. (own)
abbrev pub begun_by : State → Entry → List Entry → List Span
begun_by v e entries =
    map (span_from (Some e.number) (after v e.request) entries)
    (made_by v (after v e.request) e.request.subject e.request.action)

-- The spans that entries begin, by entry. (own)
abbrev pub begun : State → List Entry → List Span
begun v [] = []
begun v (e ∷ entries) = begun_by v e entries ++ begun (after v e.request) entries

-- The spans that begin with a state, by subject, object and mode. (own)
abbrev pub opened : State → List Entry → List Span
opened v entries = map (span_from None v entries) (by_subject v.accesses MAX_SUBJECTS)

-- The spans of the states that entries lead through from a state. (own)
abbrev pub spans_over : State → List Entry → List Span
spans_over v entries = opened v entries ++ begun v entries
