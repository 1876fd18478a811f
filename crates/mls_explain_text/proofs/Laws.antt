-- What is so of what a start file and a journal are replayed as is so of these.
use Rattle.std.proofs.Common.{◌≡◌, ℕ, List, Option, Result, Ok, Err, inr, subst}
use Rattle.std.specs.Prelude.{IfOk, IfErr}
use Rattle.mls_replay.specs.Replays.{Replayed, ReplaysAt}
use Rattle.mls_replay.specs.declared.question_fault.QuestionFault.{QuestionFault}
use Rattle.mls_explain_text.specs.Files.{journal_bytes, SeesThat, RefusesThat}

module _ {T : Type 0} (bytes read : List ℕ) (journal : Option (List ℕ)) (at : Option ℕ) (r : Replayed) where
  pub seen_ok : (P : Replayed → T → Type 0) (result : Result T QuestionFault) → read ≡ journal_bytes journal → ReplaysAt bytes read at r
      → IfOk result (λ x. P r x) → IfOk result (λ x. SeesThat bytes journal at (λ s. P s x))
  seen_ok P (Ok x) e replays is = (r, subst (λ text. ReplaysAt bytes text at r) e replays, is)
  seen_ok P (Err f) e replays is = tt

  pub seen_err : (P : Replayed → QuestionFault → Type 0) (result : Result T QuestionFault) → read ≡ journal_bytes journal → ReplaysAt bytes read at r
      → IfErr result (λ f. P r f) → IfErr result (λ f. RefusesThat bytes journal at P f)
  seen_err P (Ok x) e replays is = tt
  seen_err P (Err f) e replays is = inr (r, subst (λ text. ReplaysAt bytes text at r) e replays, is)
