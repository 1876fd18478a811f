use Rattle.std.specs.Prelude.{◌≡◌, drop}
use Rattle.std.specs.List.{list_any}
use Rattle.mls_explain_text.specs.Question.{is_barred}
use Rattle.mls_explain_text.proofs.question.has_barred.Given as goal

-- it depends on what is left
abbrev pub invariant-loop-byte : goal.invariant-loop-byte
invariant-loop-byte l = list_any is_barred l.line ≡ list_any is_barred (drop l.byte-index l.line)
