use Rattle.std.proofs.Common.{take}
use Rattle.mls_spans.specs.Turning.{Pairs, turns_of}
use Rattle.mls_spans.proofs.windows.windows_of.Given as goal

-- the spans between the turns so far
abbrev pub invariant-loop-turn : goal.invariant-loop-turn
invariant-loop-turn l = Pairs l.states (turns_of (take l.turn-index l.turns) l.access) l.found.items l.opened
