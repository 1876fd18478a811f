use Rattle.std.proofs.Common.{◌++◌, sym, ◌∙◌, lit<}
use Rattle.mls_explain_text.specs.Under.{filled, told_lines}
use Rattle.mls_explain_text.proofs.Cuts.{lines_first, lines_last}
use Rattle.mls_explain_text.proofs.under.next_line.Goals as goal

pub returns-in-Some-clause-lines : goal.returns-in-Some-clause-lines
returns-in-Some-clause-lines c =
    let at = c.in-Some.ensures.byte (lit< tt) (λ w o found. found) in
    lines_first c.args.text.now at.2 ∙ (λ i. filled (sym at.0 i) ++ told_lines (sym at.1 i))

pub returns-in-None-clause-lines : goal.returns-in-None-clause-lines
returns-in-None-clause-lines c = lines_last c.args.text.now (c.in-None.ensures.byte (lit< tt) (λ w o found. found))
