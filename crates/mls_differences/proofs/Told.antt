-- What is told of differences is told of the starts whose they are.
use Rattle.std.proofs.Common.{◌≡◌, ℕ, Bool, true, false, ◌+◌, List, ◌++◌, length, Result, Ok, Err, ap, subst}
use Rattle.std.specs.Prelude.{IfOk}
use Rattle.std.specs.List.{flat_map}
use Rattle.mls_rows.specs.declared.form.Form.{Form}
use Rattle.mls_rows.specs.declared.listing.Listing.{Listing}
use Rattle.mls_start_file.specs.Ties.{Loaded}
use Rattle.mls_differences.specs.ChangeForms.{change_bytes}
use Rattle.mls_differences.specs.Differences.{AreOpened, IsListing, rows_bytes, starts_bytes}
use Rattle.mls_differences.specs.Gets.{get_bytes}
use Rattle.mls_differences.specs.Scoped.{SumsUp, TellsBy, TellsFoundBy, changed, found_bytes, gets_of, shown_bytes, wanted_gets}
use Rattle.mls_differences.specs.SingleForms.{single_bytes}
use Rattle.mls_differences.specs.declared.get_row.GetRow.{GetRow}
use Rattle.mls_differences.specs.declared.sections.Differences.{Differences}

module _ (form : Form) (file other : List ℕ) (a b : Loaded) (d : Differences)
    (are : AreOpened a.names b.names a.start b.start d) where
  all_bytes : rows_bytes form file other a.names b.names d ≡ starts_bytes form file other a b
  all_bytes i =
      flat_map (change_bytes form a.names b.names) (are.changes i) ++ flat_map (single_bytes form file other a.names b.names) (are.singles i)
      ++ flat_map (get_bytes form a.names) (are.gets i)

  bytes_told : (broken : Bool) → found_bytes broken form file other a.names b.names d ≡ shown_bytes broken form file other a b
  bytes_told false = all_bytes
  bytes_told true = ap (λ gets. flat_map (get_bytes form a.names) (wanted_gets true gets)) are.gets

  summed_told : (broken : Bool) (listing : Listing)
      → SumsUp form a.names broken (length d.changes.items + length d.singles.items) (wanted_gets broken d.gets.items) listing
      → SumsUp form a.names broken (changed a b) (wanted_gets broken (gets_of a b)) listing
  summed_told broken listing summed =
      subst (λ (gets : List GetRow). SumsUp form a.names broken (changed a b) (wanted_gets broken gets) listing) are.gets
      (subst (λ (n : ℕ). SumsUp form a.names broken n (wanted_gets broken d.gets.items) listing)
      (λ i. length (are.changes i) + length (are.singles i)) summed)

  told_by : (summary broken : Bool) (listing : Listing) → TellsFoundBy summary broken form file other a.names b.names d listing
      → TellsBy summary broken form file other a b listing
  told_by false broken listing told = subst (λ (bytes : List ℕ). IsListing bytes listing) (bytes_told broken) told
  told_by true broken listing told = summed_told broken listing told

  pub starts_told : {E : Type 0} (summary broken : Bool) (result : Result Listing E)
      → IfOk result (λ listing. TellsFoundBy summary broken form file other a.names b.names d listing)
      → IfOk result (λ listing. TellsBy summary broken form file other a b listing)
  starts_told summary broken (Ok listing) told = told_by summary broken listing told
  starts_told summary broken (Err fault) told = tt
