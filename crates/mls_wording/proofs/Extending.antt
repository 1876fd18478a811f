-- Texts that go on where others end.
use Rattle.std.specs.Prelude.{◌≡◌, ℕ, List, [], ◌++◌, Result, Ok, Err, OnErr}
use Rattle.std.proofs.Common.{sym, ap, ◌∙◌, append-nil}
use Rattle.std.proofs.lemmas.List.{append_assoc}
use Rattle.mls_labels.specs.LabelText.{Extends}

-- a text that stays
pub stays : (a b : List ℕ) → b ≡ a → Extends a b
stays a b e = ([], e ∙ sym (append-nil a))

-- a text to which something was added, and more after it
pub grows : (a b c m : List ℕ) → b ≡ a ++ m → Extends b c → Extends a c
grows a b c m e more = (m ++ more.0, more.1 ∙ ap (λ w. w ++ more.0) e ∙ append_assoc a m more.0)

-- a text that went on, and more after it
pub follows : (a b c : List ℕ) → Extends a b → Extends b c → Extends a c
follows a b c h k = (h.0 ++ k.0, k.1 ∙ ap (λ w. w ++ k.0) h.1 ∙ append_assoc a h.0 k.0)

-- a fact is one where a call fails, too
pub on_err : {T E P : Type 0} (r : Result T E) → P → OnErr r P
on_err (Ok x) p = tt
on_err (Err e) p = p
