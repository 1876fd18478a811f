-- Rows, one after the other.
use Rattle.std.proofs.Common.{◌≡◌, ℕ, Bool, true, false, List, [], ◌∷◌, ◌++◌, Result, Ok, Err, sym, ap, subst, ◌∙◌}
use Rattle.std.specs.Prelude.{IfOk}
use Rattle.mls_tables.specs.Triples.{Triple}
use Rattle.mls_lines.specs.Names.{Names}
use Rattle.mls_state.specs.State.{State}
use Rattle.mls_rows.specs.declared.form.Form.{Form}
use Rattle.mls_rows.specs.declared.listing.Listing.{Listing}
use Rattle.mls_requests.specs.declared.request.Request.{Request}
use Rattle.mls_futures.specs.Futures.{HasLabelsWithin, CouldCome}
use Rattle.mls_could.specs.Foreseeing.{NeverComes}
use Rattle.mls_shared_rows.specs.Requests.{requests_bytes}
use Rattle.mls_ways.specs.Brings.{BringsLeanly}
use Rattle.mls_futures_text.specs.Reasons.{AreReasons}
use Rattle.mls_futures_text.specs.Rows.{answer_bytes, reasons_bytes}
use Rattle.mls_futures_text.specs.Whether.{RowsOfScript, RowsOfNever, RowsWhether}
use Rattle.mls_futures_text.specs.declared.barrier.Why.{Why}

-- the rows of a script, and of reasons
module _ {E : Type 0} (names : Names) (v : State) (acts : ℕ → Bool) (t : Triple) (form : Form) where
  pub told_script : (releases requests : List Request) (result : Result Listing E) → (HasLabelsWithin v → CouldCome v acts t.0 t.1 t.2)
      → (HasLabelsWithin v → BringsLeanly v acts t releases requests)
      → IfOk result (λ l. l.bytes.items ≡ answer_bytes form true ++ requests_bytes names form releases ++ requests_bytes names form requests)
      → IfOk result (λ l. RowsOfScript names v acts t form l.bytes.items)
  told_script releases requests (Ok l) could does bytes = record { could = could; releases = releases; requests = requests; does = does; bytes = bytes }
  told_script releases requests (Err f) could does bytes = tt

  pub told_reasons : (found : List Why) (result : Result Listing E) → NeverComes v acts t → AreReasons v acts t found
      → IfOk result (λ l. l.bytes.items ≡ answer_bytes form false ++ reasons_bytes names form found) → IfOk result (λ l. RowsOfNever names v acts t form l.bytes.items)
  told_reasons found (Ok l) never reasons bytes = record { never = never; found = found; reasons = reasons; bytes = bytes }
  told_reasons found (Err f) never reasons bytes = tt

-- what is told of what could come about, and of what never does
module _ {E : Type 0} (names : Names) (v : State) (acts : ℕ → Bool) (t : Triple) (form : Form) where
  pub told_open : (result : Result Listing E) → IfOk result (λ l. RowsOfScript names v acts t form l.bytes.items)
      → IfOk result (λ l. l.is_positive ≡ true) → IfOk result (λ l. RowsWhether names v acts t form l.bytes.items l.is_positive)
  told_open (Ok l) rows is = subst (RowsWhether names v acts t form l.bytes.items) (sym is) rows
  told_open (Err f) rows is = tt

  pub told_never : (result : Result Listing E) → IfOk result (λ l. RowsOfNever names v acts t form l.bytes.items)
      → IfOk result (λ l. l.is_positive ≡ false) → IfOk result (λ l. RowsWhether names v acts t form l.bytes.items l.is_positive)
  told_never (Ok l) rows is = subst (RowsWhether names v acts t form l.bytes.items) (sym is) rows
  told_never (Err f) rows is = tt
