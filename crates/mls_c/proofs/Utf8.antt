-- Bytes that are read as a text.
use Rattle.std.proofs.Common.{◌≡◌, ℕ, List, refl, sym, ap, subst, inl, inr}
use Rattle.std.specs.Prelude.{Bool, Some, None, if◌then◌else◌}
use Rattle.std.specs.Str.{IsUtf8, is_utf8}
use Rattle.std.proofs.lemmas.Bool.{cases_Bool}
use Rattle.std.proofs.lemmas.Str.{IsUtf8-from_is_utf8, is_utf8-from_IsUtf8}
use Rattle.mls_c.specs.Texts.{text_in}

pub text_read : (bytes text : List ℕ) → text ≡ bytes → IsUtf8 bytes → Some text ≡ text_in bytes
text_read bytes text same is =
    subst (λ (b : Bool). Some text ≡ (if b then Some bytes else None)) (sym (is_utf8-from_IsUtf8 bytes is)) (ap (λ t. Some t) same)

pub text_unread : (bytes : List ℕ) → (IsUtf8 bytes → ⊥) → None ≡ text_in bytes
text_unread bytes not = elim (cases_Bool (is_utf8 bytes)) [
  | inl so ↦ absurd (not (IsUtf8-from_is_utf8 bytes so))
  | inr other ↦ subst (λ (b : Bool). None ≡ (if b then Some bytes else None)) (sym other) refl
]
