-- Texts of many parts, grouped from either side.
use Rattle.std.proofs.Common.{◌≡◌, ℕ, List, ◌∷◌, ◌++◌, append_assoc}

-- a subject's line, as it is listed, and as tokens with spaces between them
pub subject_left : (h s k m l c j i t n : List ℕ) → h ++ s ++ (k ++ m ++ l ++ c ++ j ++ i) ++ t ++ n ≡ h ++ (s ++ (k ++ (m ++ (l ++ (c ++ (j ++ (i ++ (t ++ n))))))))
subject_left h s k m l c j i t n = simp append_assoc

pub subject_right : (a s b m d c e i n : List ℕ) → (a ++ 32 ∷ (s ++ 32 ∷ (b ++ 32 ∷ (m ++ 32 ∷ (d ++ 32 ∷ (c ++ 32 ∷ (e ++ 32 ∷ i))))))) ++ n
    ≡ a ++ 32 ∷ (s ++ 32 ∷ (b ++ 32 ∷ (m ++ 32 ∷ (d ++ 32 ∷ (c ++ 32 ∷ (e ++ 32 ∷ (i ++ n)))))))
subject_right a s b m d c e i n = simp append_assoc

pub trusted_right : (a s b m d c e i u n : List ℕ) → (a ++ 32 ∷ (s ++ 32 ∷ (b ++ 32 ∷ (m ++ 32 ∷ (d ++ 32 ∷ (c ++ 32 ∷ (e ++ 32 ∷ (i ++ 32 ∷ u)))))))) ++ n
    ≡ a ++ 32 ∷ (s ++ 32 ∷ (b ++ 32 ∷ (m ++ 32 ∷ (d ++ 32 ∷ (c ++ 32 ∷ (e ++ 32 ∷ (i ++ 32 ∷ (u ++ n))))))))
trusted_right a s b m d c e i u n = simp append_assoc

-- and an object's
pub root_left : (h o k l j i t n : List ℕ) → h ++ o ++ (k ++ l ++ j ++ i) ++ t ++ n ≡ h ++ (o ++ (k ++ (l ++ (j ++ (i ++ (t ++ n))))))
root_left h o k l j i t n = simp append_assoc

pub root_right : (a o b l d i n : List ℕ) → (a ++ 32 ∷ (o ++ 32 ∷ (b ++ 32 ∷ (l ++ 32 ∷ (d ++ 32 ∷ i))))) ++ n
    ≡ a ++ 32 ∷ (o ++ 32 ∷ (b ++ 32 ∷ (l ++ 32 ∷ (d ++ 32 ∷ (i ++ n)))))
root_right a o b l d i n = simp append_assoc

pub child_left : (h o k l j i q p n : List ℕ) → h ++ o ++ (k ++ l ++ j ++ i) ++ (q ++ p) ++ n ≡ h ++ (o ++ (k ++ (l ++ (j ++ (i ++ (q ++ (p ++ n)))))))
child_left h o k l j i q p n = simp append_assoc

pub child_right : (a o b l d i e p n : List ℕ) → (a ++ 32 ∷ (o ++ 32 ∷ (b ++ 32 ∷ (l ++ 32 ∷ (d ++ 32 ∷ (i ++ 32 ∷ (e ++ 32 ∷ p))))))) ++ n
    ≡ a ++ 32 ∷ (o ++ 32 ∷ (b ++ 32 ∷ (l ++ 32 ∷ (d ++ 32 ∷ (i ++ 32 ∷ (e ++ 32 ∷ (p ++ n)))))))
child_right a o b l d i e p n = simp append_assoc
