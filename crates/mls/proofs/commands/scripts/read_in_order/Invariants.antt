use Rattle.std.proofs.Common.{◌≡◌, ◌≤◌}
use Rattle.std.specs.Prelude.{All, vec_len}
use Rattle.mls_scripts.specs.declared.serving.TheConstants.{SCRIPT_LIMIT}
use Rattle.mls.proofs.commands.scripts.read_in_order.Given as goal

-- a text of each script so far, each short enough
abbrev pub invariant-loop-path : goal.invariant-loop-path
invariant-loop-path l = record { limit : All (λ text. vec_len text ≤ SCRIPT_LIMIT) l.texts.items; count : vec_len l.texts ≡ l.path-index }
