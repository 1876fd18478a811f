-- What could be got from one of two starts alone, test by test and row by row.
use Rattle.std.proofs.Common.{◌≡◌, ◌↔◌, ℕ, Bool, true, List, ◌++◌, Result, Ok, Err, sym, ap, subst, ◌∙◌}
use Rattle.std.specs.Prelude.{IfOk, OnOk}
use Rattle.std.proofs.lemmas.List.{append_assoc}
use Rattle.mls_tables.specs.Triples.{Triple}
use Rattle.mls_tables.specs.declared.mode.Mode.{Mode}
use Rattle.mls_tables.specs.declared.mode.Mode.TheVariants.{Execute, Read, Append, Write}
use Rattle.mls_state.specs.State.{State}
use Rattle.mls_state.specs.Properties.{HasTree}
use Rattle.mls_futures.specs.Closure.{CouldGet}
use Rattle.mls_lines.specs.Names.{Names}
use Rattle.mls_rows.specs.declared.form.Form.{Form}
use Rattle.mls_rows.specs.declared.listing.Listing.{Listing}
use Rattle.mls_could.specs.Brought.{is_untrusted}
use Rattle.mls_could.specs.Outsets.{acts_of, Decides, IsOutset}
use Rattle.mls_could.specs.declared.outset.Outset.{Outset}
use Rattle.mls_could.proofs.Laws.{is_could, decides, same_test}
use Rattle.mls_differences.specs.Coulds.{lone_rows, could_rows, cell_coulds, could_bytes, named_coulds, TellsCoulds}
use Rattle.mls_differences.specs.Differences.{IsListing}
use Rattle.mls_differences.specs.Sides.{alone}
use Rattle.mls_differences.specs.declared.could_row.CouldRow.{CouldRow}
use Rattle.mls_differences.specs.declared.shared.Shared.{Shared}

-- what is so where there is a value
pub on_ok : {T E P Q : Type 0} (result : Result T E) → (P → Q) → OnOk result P → OnOk result Q
on_ok (Ok x) more so = more so
on_ok (Err f) more so = tt

-- the row of an access, by whether it could be got from each start
pub lone_told : (v w : State) (acts others : ℕ → Bool) (s o : Shared) (x : Mode) (b c : Bool) (old new : List CouldRow)
    → (b ≡ true ↔ CouldGet v acts s.first o.first x) → (c ≡ true ↔ CouldGet w others s.second o.second x)
    → new ≡ old ++ lone_rows s.first o.first x (alone b c)
    → (here there : Triple → Bool) → Decides here v acts → Decides there w others → new ≡ old ++ could_rows here there s o x
lone_told v w acts others s o x b c old new is could row here there first second =
    row
    ∙ (λ i. old ++ lone_rows s.first o.first x
    (alone (sym (same_test v acts here (s.first, o.first, x) b first is) i) (sym (same_test w others there (s.second, o.second, x) c second could) i)))

-- the rows of the four modes, one after the other
pub four_coulds : (here there : Triple → Bool) (s o : Shared) (old a b c d : List CouldRow) → a ≡ old ++ could_rows here there s o Execute
    → b ≡ a ++ could_rows here there s o Read → c ≡ b ++ could_rows here there s o Append → d ≡ c ++ could_rows here there s o Write
    → d ≡ old ++ cell_coulds here there s o
four_coulds here there s o old a b c d one two three four =
    four
    ∙ ap (λ t. t ++ last) (three ∙ ap (λ t. t ++ third) (two ∙ ap (λ t. t ++ second) one ∙ append_assoc old first second) ∙ append_assoc old (first ++ second) third)
    ∙ append_assoc old ((first ++ second) ++ third) last where
      first : List CouldRow
      first = could_rows here there s o Execute

      second : List CouldRow
      second = could_rows here there s o Read

      third : List CouldRow
      third = could_rows here there s o Append

      last : List CouldRow
      last = could_rows here there s o Write

-- the tests of what is known of both starts tell it
pub told_coulds : {E : Type 0} (form : Form) (file other : List ℕ) (a b : Names) (v w : State) (one two : Outset) (result : Result Listing E)
    → HasTree v → HasTree w → IsOutset v one → IsOutset w two → ((s : ℕ) → acts_of one s ≡ is_untrusted v s) → ((s : ℕ) → acts_of two s ≡ is_untrusted w s)
    → IfOk result (λ found. (here there : Triple → Bool) → Decides here v (acts_of one) → Decides there w (acts_of two)
    → IsListing (could_bytes form file other a (named_coulds here there a b)) found)
    → IfOk result (λ found. TellsCoulds form file other a b v w found)
told_coulds form file other a b v w one two (Ok found) h k is are acts others told = record {
  here = is_could v one;
  of_first = subst (Decides (is_could v one) v) (λ i s. acts s i) (decides v one h is);
  there = is_could w two;
  of_second = subst (Decides (is_could w two) w) (λ i s. others s i) (decides w two k are);
  answered = told (is_could v one) (is_could w two) (decides v one h is) (decides w two k are);
}
told_coulds form file other a b v w one two (Err fault) h k is are acts others told = tt
