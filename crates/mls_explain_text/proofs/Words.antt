-- Where no words are left, nothing is written of them.
use Rattle.std.proofs.Common.{◌≡◌, ℕ, ◌<◌, List, [], ◌∷◌, length, map, refl, arith, Bor}
use Rattle.mls_lines.specs.declared.fault.LineFault.{LineFault}
use Rattle.mls_start_text.specs.Texts.{SaidFile}
use Rattle.mls_explain_text.specs.Culprit.{culprit_text}
use Rattle.mls_explain_text.specs.declared.sort.Sort.{Sort}

pub no_words : (file : SaidFile) (fault : LineFault) (sorts : List Sort) (ws : List (Bor (List ℕ))) → length ws < 1 → culprit_text file fault sorts (map (λ word. word.now) ws) ≡ []
no_words file fault [] ws h = refl
no_words file fault (sort ∷ sorts) [] h = refl
no_words file fault (sort ∷ sorts) (w ∷ ws) h = absurd (omega (arith, h))
