-- What is so of what is seen of files is so of these.
use Rattle.std.proofs.Common.{Result, Ok, Err, refl}
use Rattle.std.specs.Prelude.{IfOk, IfErr}
use Rattle.mls_seen.specs.Files.{Seen, SeesFiles, SeesThat}

module _ {T E : Type 0} (r : Seen) (sees : SeesFiles r) where
  pub seen_ok : (P : Seen → T → Type 0) (result : Result T E) → IfOk result (λ x. P r x)
      → IfOk result (λ x. SeesThat r.files r.at (λ s. P s x))
  seen_ok P (Ok x) so = record { seen = r; of_files = refl; before = refl; sees = sees; so = so }
  seen_ok P (Err f) so = tt

  pub seen_err : (P : Seen → E → Type 0) (result : Result T E) → IfErr result (λ f. P r f)
      → IfErr result (λ f. SeesThat r.files r.at (λ s. P s f))
  seen_err P (Ok x) so = tt
  seen_err P (Err f) so = record { seen = r; of_files = refl; before = refl; sees = sees; so = so }
