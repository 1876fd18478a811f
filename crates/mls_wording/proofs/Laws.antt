-- What other crates may know of what is written by the names of a start.
use Rattle.std.proofs.Common.{◌≡◌, ℕ, ◌<◌, ◌^◌, List, sym, subst, ◌∙◌}
use Rattle.std.specs.Prelude.{slice_get}
use Rattle.mls_labels.specs.Label.{Label}
use Rattle.mls_labels.specs.LabelText.{Spells, written}
use Rattle.mls_labels.specs.Scheme.{Scheme, IsScheme}
use Rattle.mls_wording.specs.ReadBack.{AreNames, IsOf}
use Rattle.mls_wording.specs.Wording.{name_or, label_within}
use Rattle.mls_wording.proofs.Tokens.{thing_token, written_within}
-- what is written of a label spells it, and a text spells one label
pub use Rattle.mls_wording.proofs.LabelNumbers.{WrittenLaw, OneLaw}
-- no two numbers have one text
pub use Rattle.mls_wording.proofs.NamePlaces.{name_or_number, placed, numbers_apart}
-- what is written is a token: of a mode, and of a label; and the bytes of a number are seen
pub use Rattle.mls_wording.proofs.Tokens.{Token, mode_token, decimal_seen, label_token}

-- and of a number
pub number_token : (names : List (List ℕ)) → AreNames names → (n : ℕ) → n < 2 ^ 16 → Token (name_or (slice_get names n) n) 32
number_token names are n fits = thing_token names (name_or (slice_get names n) n) n (name_or_number names are n fits)

-- no two labels of a scheme have one text
pub labels_apart : WrittenLaw → OneLaw → (s : Scheme) (a b : Label) → IsScheme s → IsOf s a → IsOf s b → label_within s a ≡ label_within s b → a ≡ b
labels_apart spelled one s a b is first second same =
    let texts : written s a ≡ written s b = sym (written_within s a first) ∙ same ∙ written_within s b second in
    one s (written s a) a b is (spelled s a is first) (subst (λ t. Spells s t b) (sym texts) (spelled s b is second))
