-- Texts that are added one after the other.
use Rattle.std.proofs.Common.{◌≡◌, ℕ, List, ◌++◌, ap, ◌∙◌}
use Rattle.std.proofs.lemmas.List.{append_assoc}

pub four_texts : (t0 t1 t2 t3 t4 a b c d : List ℕ) → t1 ≡ t0 ++ a → t2 ≡ t1 ++ b → t3 ≡ t2 ++ c → t4 ≡ t3 ++ d
    → t4 ≡ t0 ++ (((a ++ b) ++ c) ++ d)
four_texts t0 t1 t2 t3 t4 a b c d e1 e2 e3 e4 =
    e4 ∙ ap (λ k. k ++ d) (e3 ∙ ap (λ k. k ++ c) (e2 ∙ ap (λ k. k ++ b) e1 ∙ append_assoc t0 a b) ∙ append_assoc t0 (a ++ b) c)
    ∙ append_assoc t0 ((a ++ b) ++ c) d
