use Rattle.std.proofs.Common.{◌∷◌, ◌++◌, sym, ap, ◌∙◌, arith}
use Rattle.mls_requests.specs.ModeWords.{mode_word}
use Rattle.mls_scripts.proofs.Accesses.{access_read}
use Rattle.mls_scripts.proofs.access.read_access.Goals as goal

pub returns : goal.returns
returns g c =
    access_read _ c.args.line.now _ _ _ _ _ _ _ _ (omega arith) c.in_ok-subject.ensures.text c.in_ok-subject.ensures.name c.in_ok-kind.ensures
    (c.in_ok-mode.ensures ∙ ap (λ o. mode_word c.in_ok-mode.mode ++ 32 ∷ o) (sym c.in_ok-object.ensures.text)) c.in_ok-object.ensures.name
    (sym c.in_ok-subject-2.ensures) (sym c.in_ok-object-2.ensures)
