-- How many names a start has.
use Rattle.std.proofs.Common.{◌≡◌, ℕ, ◌≤◌, false, length, sym, ap, ◌∙◌, arith}
use Rattle.std.specs.Prelude.{nat_lt}
use Rattle.std.proofs.lemmas.Bool.Decides.{nat_tests}
use Rattle.mls_lines.specs.Names.{Names}
use Rattle.mls_state.specs.State.{State, is_subject}
use Rattle.mls_start_file.specs.Ties.{AreTied}

-- as many as there are subjects
pub few_subjects : (names : Names) (start seen : State) (count most : ℕ) → seen ≡ start → AreTied names start
    → ((s : ℕ) → is_subject seen s ≡ nat_lt s count) → count ≤ most → length names.subjects ≤ most
few_subjects names start seen count most is tied known few =
    let none : nat_lt count count ≡ false = grind (arith, nat_tests) in
    let same : nat_lt count (length names.subjects) ≡ false =
    sym (tied.known count) ∙ ap (λ v. is_subject v count) (sym is) ∙ known count ∙ none in
    grind (arith, nat_tests, same, few)

-- as many as there are objects
pub few_objects : (names : Names) (start seen : State) (count most : ℕ) → seen ≡ start → AreTied names start → count ≡ seen.next → count ≤ most
    → length names.objects ≤ most
few_objects names start seen count most is tied next few =
    let same : seen.next ≡ start.next = ap (λ v. v.next) is in
    omega (arith, tied.next, next, same, few)
