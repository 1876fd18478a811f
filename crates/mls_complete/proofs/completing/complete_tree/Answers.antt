use Rattle.std.proofs.Common.{string_bytes}
use Rattle.std.proofs.lemmas.Result.{IfOk-weaker}
use Rattle.serde_json.specs.View.{view}
use Rattle.mls_complete.specs.Completed.{Writes, CompletesTree}
use Rattle.mls_complete.proofs.completing.complete_tree.Goals as goal

pub returns-in-Ok : goal.returns-in-Ok
returns-in-Ok c =
    IfOk-weaker c.text_for-text.result (λ text. Writes c.in-Ok.loaded (string_bytes text)) (λ text. CompletesTree (view c.args.tree.now) (string_bytes text))
    (λ text written. (c.in-Ok.loaded, c.in-Ok.ensures, written)) c.text_for-text.ensures
