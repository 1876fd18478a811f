use Rattle.std.proofs.Common.{ℕ, List, ◌&&◌, ◌++◌, [], ◌∷◌, ap, ◌∙◌, cond}
use Rattle.std.specs.FinSet as set
use Rattle.mls_tables.specs.declared.mode.Mode.{Mode}
use Rattle.mls_tables.specs.declared.mode.Mode.TheVariants.{Execute, Read, Append, Write}
use Rattle.mls_explain.specs.Prospects.{pairs_of}
use Rattle.mls_explain.proofs.Cells.{four_mapped}
use Rattle.mls_explain.proofs.permitted.push_subject.Goals as goal

pub returns-clause-pairs : goal.returns-clause-pairs
returns-clause-pairs g c =
    let s = c.args.s in
    let p = λ (x : Mode). set.contains c.args.asked x && set.contains c.args.state.now.matrix (s, c.args.o, x) in
    let more = λ (t : List (ℕ × Mode)) (x : Mode). t ++ cond (p x) ((s, x) ∷ []) [] in
    c.in_ok-push_mode-4.ensures.pairs
    ∙ ap (λ t. more t Write) (c.in_ok-push_mode-3.ensures.pairs
    ∙ ap (λ t. more t Append) (c.in_ok-push_mode-2.ensures.pairs
    ∙ ap (λ t. more t Read) c.in_ok-push_mode.ensures.pairs))
    ∙ four_mapped (λ x. (s, x)) p (pairs_of c.args.found.now.items) Execute Read Append Write
