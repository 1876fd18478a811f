-- What is so of a replay that a history has is so of its files.
use Rattle.std.proofs.Common.{◌≡◌, ℕ, Bool, List, Option, Result, Ok, Err, subst}
use Rattle.std.specs.Io.KnownBytes.{Appends}
use Rattle.std.specs.Prelude.{IfOk, IfErr}
use Rattle.mls_explain_text.specs.Entries.{RefusesWriting, Writes}
use Rattle.mls_explain_text.specs.declared.write_fault.WriteFault.{WriteFault}
use Rattle.mls_explain_text.specs.declared.write_fault.WriteFault.TheVariants as faults
use Rattle.mls_listings.specs.declared.list_fault.ListFault.{ListFault}
use Rattle.mls_replay.specs.Replays.{Replayed}
use Rattle.mls_seen.specs.Files.{place_of}
use Rattle.mls_seen.specs.Histories.{History, IsOfFiles, ReplaysThat}
use Rattle.mls_spans.specs.declared.states.States.{States}
use Rattle.mls_answers.specs.Histories.{states_from}

module _ (h : History) (is : IsOfFiles h) (lent : Replayed) (same : lent ≡ h.replayed) where
  -- it is so of the files
  replays_that : (P : Replayed → Type 0) → P lent → ReplaysThat h.files h.at P
  replays_that P so = record { replayed = h.replayed; whole = is.whole; replays = is.replays; so = subst P same so }

  pub replayed_ok : {T E : Type 0} (P : Replayed → T → Type 0) (result : Result T E) → IfOk result (λ x. P lent x)
      → IfOk result (λ x. ReplaysThat h.files h.at (λ r. P r x))
  replayed_ok P (Ok x) so = replays_that (λ r. P r x) so
  replayed_ok P (Err f) so = tt

  pub replayed_err : {T E : Type 0} (P : Replayed → E → Type 0) (result : Result T E) → IfErr result (λ f. P lent f)
      → IfErr result (λ f. ReplaysThat h.files h.at (λ r. P r f))
  replayed_err P (Ok x) so = tt
  replayed_err P (Err f) so = replays_that (λ r. P r f) so

  -- the same of the states from the one on that is looked at
  states_that : (first : ℕ) (last : Option ℕ) (P : Replayed → States → Type 0) → first ≡ place_of h.at h.replayed.entries
      → P lent (record { first = first; last = last }) → ReplaysThat h.files h.at (λ r. P r (states_from r h.at last))
  states_that first last P from so = record {
    replayed = h.replayed;
    whole = is.whole;
    replays = is.replays;
    so = subst (λ n. P h.replayed (record { first = n; last = last })) from (subst (λ r. P r (record { first = first; last = last })) same so);
  }

  pub states_ok : {T E : Type 0} (first : ℕ) (last : Option ℕ) (P : Replayed → States → T → Type 0) (result : Result T E)
      → first ≡ place_of h.at h.replayed.entries → IfOk result (λ x. P lent (record { first = first; last = last }) x)
      → IfOk result (λ x. ReplaysThat h.files h.at (λ r. P r (states_from r h.at last) x))
  states_ok first last P (Ok x) from so = states_that first last (λ r states. P r states x) from so
  states_ok first last P (Err f) from so = tt

  pub states_err : {T E : Type 0} (first : ℕ) (last : Option ℕ) (P : Replayed → States → E → Type 0) (result : Result T E)
      → first ≡ place_of h.at h.replayed.entries → IfErr result (λ f. P lent (record { first = first; last = last }) f)
      → IfErr result (λ f. ReplaysThat h.files h.at (λ r. P r (states_from r h.at last) f))
  states_err first last P (Ok x) from so = tt
  states_err first last P (Err f) from so = states_that first last (λ r states. P r states f) from so

  pub written_ok : (P : Replayed → List ℕ → Bool → Type 0) (result : Result Bool WriteFault) (held holds : Option (List ℕ))
      → IfOk result (λ any. Writes (λ told. P lent told any) held holds)
      → IfOk result (λ any. Writes (λ told. ReplaysThat h.files h.at (λ r. P r told any)) held holds)
  written_ok P (Ok any) held holds (told, so, appended) = (told, replays_that (λ r. P r told any) so, appended)
  written_ok P (Err fault) held holds so = tt

  pub written_err : (P : Replayed → ListFault → Type 0) (result : Result Bool WriteFault)
      → IfErr result (λ fault. RefusesWriting (λ cause. P lent cause) fault)
      → IfErr result (λ fault. RefusesWriting (λ cause. ReplaysThat h.files h.at (λ r. P r cause)) fault)
  written_err P (Ok any) so = tt
  written_err P (Err (faults.List fault)) so = replays_that (λ r. P r fault) so
  written_err P (Err faults.Write) so = tt
