-- What a comparison with a start as settings have it tells, and why it is refused, from its parts.
use Rattle.std.proofs.Common.{◌≡◌, ℕ, List, Option, Some, None, Result, Ok, Err, refl, sym, subst}
use Rattle.std.specs.Prelude.{IfOk, IfErr, IsTrue}
use Rattle.mls_lines.specs.Names.{Names}
use Rattle.mls_start_file.specs.Says.{SaysStart}
use Rattle.mls_start_file.specs.Ties.{Loaded}
use Rattle.mls_replay.specs.Loads.{RefusesLoad}
use Rattle.mls_rows.specs.declared.form.Form.{Form}
use Rattle.mls_rows.specs.declared.listing.Listing.{Listing}
use Rattle.mls_settings.specs.Settings.{SaysSet, are_right}
use Rattle.mls_settings.specs.declared.setting.Setting.{Setting}
use Rattle.mls_compare.specs.AsSet.{ComparesSet, ComparesAsSet, RefusesSettings, RefusesAsSet}
use Rattle.mls_compare.specs.Comparing.{RefusesLoaded, Tells}
use Rattle.mls_compare.specs.declared.asked.Asked.{Asked}
use Rattle.mls_compare.specs.declared.compare_fault.CompareFault.{CompareFault}
use Rattle.mls_compare.specs.declared.compare_fault.CompareFault.TheVariants.{First, Second, Journal, Unset}

module _ (asked : Asked) (form : Form) (file other : List ℕ) (journal : Option (List ℕ)) where
  -- a start and what its file says as settings have it
  pub set_tells : (a b : Loaded) (names : Names) (bytes : List ℕ) (settings : List Setting) (result : Result Listing CompareFault)
      → names ≡ a.names → IsTrue (are_right names settings) → SaysSet bytes settings b
      → IfOk result (λ answer. Tells asked form file other a b journal answer)
      → IfOk result (λ answer. ComparesSet asked form file other a bytes settings journal answer)
  set_tells a b names bytes settings (Ok answer) same right says tells = (subst (λ n. IsTrue (are_right n settings)) same right, (b, says, tells))
  set_tells a b names bytes settings (Err fault) same right says tells = tt

  pub as_set_tells : (first : List ℕ) (settings : List Setting) (a : Loaded) (result : Result Listing CompareFault) → SaysStart first a
      → IfOk result (λ answer. ComparesSet asked form file other a first settings journal answer)
      → IfOk result (λ answer. ComparesAsSet asked form file other first settings journal answer)
  as_set_tells first settings a (Ok answer) says tells = (a, says, tells)
  as_set_tells first settings a (Err fault) says tells = tt

-- a start that isn't compared with what its file says as settings have it
set_is : (a : Loaded) (bytes : List ℕ) (settings : List Setting) (journal : Option (List ℕ)) (b : Loaded) (fault : CompareFault)
    → SaysSet bytes settings b → RefusesLoaded a.start journal fault → RefusesSettings a bytes settings journal fault
set_is a bytes settings None b fault says why = subst (RefusesSettings a bytes settings None) (sym why) refl
set_is a bytes settings (Some journal) b (First cause) says why = why
set_is a bytes settings (Some journal) b (Second cause) says why = absurd why
set_is a bytes settings (Some journal) b (Journal cause) says why = (b, says, why)
set_is a bytes settings (Some journal) b (Unset cause) says why = absurd why

pub set_refused : (a : Loaded) (bytes : List ℕ) (settings : List Setting) (journal : Option (List ℕ)) (b : Loaded) (result : Result Listing CompareFault)
    → SaysSet bytes settings b → IfErr result (λ fault. RefusesLoaded a.start journal fault)
    → IfErr result (λ fault. RefusesSettings a bytes settings journal fault)
set_refused a bytes settings journal b (Ok answer) says why = tt
set_refused a bytes settings journal b (Err fault) says why = set_is a bytes settings journal b fault says why

as_set_is : (first : List ℕ) (settings : List Setting) (journal : Option (List ℕ)) (a : Loaded) (fault : CompareFault) → SaysStart first a
    → RefusesSettings a first settings journal fault → RefusesAsSet first settings journal fault
as_set_is first settings journal a (First cause) says why = subst (RefusesLoad first) (sym why) tt
as_set_is first settings journal a (Second cause) says why = (a, says, why)
as_set_is first settings journal a (Journal cause) says why = (a, says, why)
as_set_is first settings journal a (Unset cause) says why = (a, says, why)

pub as_set_refuses : (first : List ℕ) (settings : List Setting) (journal : Option (List ℕ)) (a : Loaded) (result : Result Listing CompareFault)
    → SaysStart first a → IfErr result (λ fault. RefusesSettings a first settings journal fault)
    → IfErr result (λ fault. RefusesAsSet first settings journal fault)
as_set_refuses first settings journal a (Ok answer) says why = tt
as_set_refuses first settings journal a (Err fault) says why = as_set_is first settings journal a fault says why
