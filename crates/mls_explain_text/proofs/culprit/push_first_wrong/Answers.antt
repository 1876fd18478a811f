use Rattle.std.proofs.Common.{◌++◌, ◌∙◌, ap, append-nil, drop, string_bytes, sym}
use Rattle.mls_start_text.specs.Views.{file_view}
use Rattle.mls_explain_text.proofs.Words.{no_words}
use Rattle.mls_explain_text.proofs.culprit.push_first_wrong.Goals as goal

pub returns-in_default : goal.returns-in_default
returns-in_default c =
    let none = c.loop-sort.invariant.1 ∙ no_words (file_view c.args.file.now) c.args.fault (drop c.loop-sort.sort-index c.args.sorts.now) c.loop-sort.rest.now c.in_default.len_below in
    c.loop-sort.invariant.0 ∙ sym (append-nil (string_bytes c.args.text.now)) ∙ ap (λ told. string_bytes c.args.text.now ++ told) (sym none)
