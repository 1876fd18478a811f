use Rattle.std.proofs.Common.{ℕ, List, ◌++◌, [], ◌∷◌, ap, ◌∙◌}
use Rattle.mls_tables.specs.declared.mode.Mode.{Mode}
use Rattle.mls_tables.specs.declared.mode.Mode.TheVariants.{Read, Append, Write}
use Rattle.mls_could.specs.Foreseeing.{pairs_of}
use Rattle.mls_could.proofs.Pairs.{four}
use Rattle.mls_could.proofs.foreseeing.push_all.Goals as goal

pub returns-clause-pairs : goal.returns-clause-pairs
returns-clause-pairs c =
    let s = c.args.s in
    let more = λ (t : List (ℕ × Mode)) (x : Mode). t ++ (s, x) ∷ [] in
    c.in_ok-push_mode-4.ensures.pairs
    ∙ ap (λ t. more t Write) (c.in_ok-push_mode-3.ensures.pairs
    ∙ ap (λ t. more t Append) (c.in_ok-push_mode-2.ensures.pairs
    ∙ ap (λ t. more t Read) c.in_ok-push_mode.ensures.pairs))
    ∙ four s (pairs_of c.args.found.now.items)
