use Rattle.std.proofs.Common.{◌≡◌, ◌≤◌, length, vec_len}
use Rattle.std.specs.Prelude.{All}
use Rattle.mls_scripts.specs.declared.serving.TheConstants.{SCRIPT_LIMIT}
use Rattle.mls.proofs.commands.scripts.lent.Given as goal

-- a text of each so far, each short enough
abbrev pub invariant-loop-text : goal.invariant-loop-text
invariant-loop-text l = record { limit : All (λ text. length text.now ≤ SCRIPT_LIMIT) l.slices.items; count : vec_len l.slices ≡ l.text-index }
