-- The spans that begin with a state.
use Rattle.std.specs.Prelude.{ℕ, List, [], ◌∷◌, None, if◌then◌else◌}
use Rattle.std.specs.List.{flat_map}
use Rattle.mls_state.specs.State.{State}
use Rattle.mls_tables.specs.Held.{objects_of}
use Rattle.mls_tables.specs.Once.{accesses_at}
use Rattle.mls_tables.specs.Triples.{Triple, TripleSet}
use Rattle.mls_spans.specs.Spans.{is_held, span_of}
use Rattle.mls_spans.specs.declared.span.Span.{Span}

-- The span of an access that begins with a state and isn't ended, where the state has it. (own)
abbrev pub span_where : State → Triple → List Span
span_where v t = if is_held v t then span_of t None None ∷ [] else []

-- The accesses of a subject, by object and mode. (own)
abbrev pub accesses_of : TripleSet → ℕ → List Triple
accesses_of b s = flat_map (λ o. accesses_at b s o) (objects_of b s)
