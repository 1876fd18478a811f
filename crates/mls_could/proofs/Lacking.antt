-- What is told of accesses that lack.
use Rattle.std.proofs.Common.{◌≡◌, ℕ, List, ◌++◌, length, Result, Ok, Err, ap, subst, ◌∙◌}
use Rattle.std.specs.Prelude.{IfOk, OnOk, ◌==◌, if◌then◌else◌}
use Rattle.std.specs.Result.{is_ok}
use Rattle.std.proofs.lemmas.List.{append_assoc}
use Rattle.mls_tables.specs.Triples.{Triple}
use Rattle.mls_lines.specs.Names.{Names}
use Rattle.mls_state.specs.State.{State}
use Rattle.mls_rows.specs.declared.form.Form.{Form}
use Rattle.mls_rows.specs.declared.listing.Listing.{Listing}
use Rattle.mls_could.specs.Brought.{is_untrusted, brought_bytes, AreBrought, TellsBrought}
use Rattle.mls_could.specs.Outsets.{acts_of}
use Rattle.mls_could.specs.declared.outset.Outset.{Outset}

-- the rows of what could be brought about tell it, where those act that aren't trusted
pub told_brought : {E : Type 0} (form : Form) (names : Names) (v : State) (outset : Outset) (found : List Triple) (result : Result Listing E)
    → ((s : ℕ) → acts_of outset s ≡ is_untrusted v s) → AreBrought v (acts_of outset) found
    → IfOk result (λ l. l.bytes.items ≡ brought_bytes names form found) → IfOk result (λ l. l.is_positive ≡ (length found == 0))
    → IfOk result (λ l. TellsBrought names v form l.bytes.items l.is_positive)
told_brought form names v outset found (Ok l) acts brought bytes none = record {
  found = found;
  brought = subst (λ a. AreBrought v a found) (λ i s. acts s i) brought;
  bytes = bytes;
  none = none;
}
told_brought form names v outset found (Err f) acts brought bytes none = tt

-- three texts, one after the other
pub pushed_three : {T E : Type 0} (result : Result T E) (old one two new a b c : List ℕ) → new ≡ (if is_ok result then two ++ c else two) → two ≡ one ++ b → one ≡ old ++ a
    → OnOk result (new ≡ old ++ ((a ++ b) ++ c))
pushed_three (Ok x) old one two new a b c last second first =
    last ∙ ap (λ t. t ++ c) (second ∙ ap (λ t. t ++ b) first ∙ append_assoc old a b) ∙ append_assoc old (a ++ b) c
pushed_three (Err f) old one two new a b c last second first = tt
