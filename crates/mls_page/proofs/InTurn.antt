-- What is appended part by part.
use Rattle.std.proofs.Common.{◌≡◌, ℕ, ◌+◌, ◌<◌, List, [], ◌∷◌, ◌++◌, length, get_or, take, refl, sym, ap, ◌∙◌}
use Rattle.std.proofs.lemmas.List.{take_more}
use Rattle.mls_markup.specs.Drafts.{Draft}
use Rattle.mls_page.specs.Parts.{with_all, with_part}
use Rattle.mls_page.specs.declared.parts.Part.{Part}

with-push : (d : Draft) (parts : List Part) (p : Part) → with_all d (parts ++ p ∷ []) ≡ with_part (with_all d parts) p
with-push d [] p = refl
with-push d (q ∷ parts) p = with-push (with_part d q) parts p

-- a part more
pub part_next : (d old new : Draft) (parts : List Part) (n : ℕ) (none : Part) → n < length parts
    → old ≡ with_all d (take n parts) → new ≡ with_part old (get_or parts n none) → new ≡ with_all d (take (n + 1) parts)
part_next d old new parts n none within so_far next =
    next ∙ ap (λ e. with_part e (get_or parts n none)) so_far ∙ sym (with-push d (take n parts) (get_or parts n none))
    ∙ ap (with_all d) (sym (take_more parts n none within))
