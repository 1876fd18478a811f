-- The lines that answer lines.
use Rattle.std.proofs.Common.{◌≡◌, ℕ, true, false, List, [], ◌∷◌, ◌++◌, Some, None, Result, Ok, Err, sym, ap, ◌∙◌, append_assoc, append-nil}
use Rattle.std.specs.Prelude.{OnOk}
use Rattle.std.specs.Fmt.{decimal}
use Rattle.std.proofs.lemmas.Bool.{true≢false}
use Rattle.mls_requests.specs.ReplyWords.{reply_text}
use Rattle.mls_lines.specs.Fault.{fault_text}
use Rattle.mls_scripts.specs.declared.answer.Answer.{Answer}
use Rattle.mls_scripts.specs.declared.answer.Answer.TheVariants as answer
use Rattle.mls_scripts.specs.Script.{answer_bytes, held_text}
use Rattle.mls_durable.specs.Sessions.{answer_line, number_text, is_silent}

pub silent_line : (old head tail : List ℕ) (a : Answer) → is_silent a ≡ true → old ≡ old ++ answer_line head tail a
silent_line old head tail answer.Nothing is = sym (append-nil old)
silent_line old head tail (answer.Fault fault) is = absurd (true≢false (sym is))
silent_line old head tail (answer.Held held) is = absurd (true≢false (sym is))
silent_line old head tail (answer.Replied r) is = absurd (true≢false (sym is))

-- where no number stands behind
joined_plain : (old head text new : List ℕ) → new ≡ (old ++ head) ++ (text ++ 10 ∷ []) → new ≡ old ++ (((head ++ text) ++ []) ++ 10 ∷ [])
joined_plain old head text new is =
    is ∙ append_assoc old head (text ++ 10 ∷ []) ∙ ap (λ (t : List ℕ). old ++ t) (sym (append_assoc head text (10 ∷ [])) ∙ ap (λ (t : List ℕ). t ++ 10 ∷ []) (sym (append-nil (head ++ text))))

pub plain_line : (old head new : List ℕ) (a : Answer) → is_silent a ≡ false → new ≡ (old ++ head) ++ answer_bytes a → new ≡ old ++ answer_line head (number_text None) a
plain_line old head new answer.Nothing not_so is = absurd (true≢false not_so)
plain_line old head new (answer.Fault fault) not_so is = joined_plain old head (fault_text fault) new is
plain_line old head new (answer.Held held) not_so is = joined_plain old head (held_text held) new is
plain_line old head new (answer.Replied r) not_so is = joined_plain old head (reply_text r) new is

-- where one does
module _ {X E : Type 0} (old head mid new : List ℕ) (n : ℕ) (result : Result X E) (puts : (line : List ℕ) → mid ≡ line ++ 10 ∷ [] → OnOk result (new ≡ line ++ 32 ∷ decimal n ++ 10 ∷ [])) where
  ok_map : (P Q : Type 0) (r : Result X E) → (P → Q) → OnOk r P → OnOk r Q
  ok_map P Q (Ok x) f p = f p
  ok_map P Q (Err e) f p = tt

  moved : (text behind end : List ℕ) → (((old ++ head) ++ text) ++ behind) ++ end ≡ old ++ (((head ++ text) ++ behind) ++ end)
  moved text behind end =
      ap (λ (t : List ℕ). (t ++ behind) ++ end) (append_assoc old head text) ∙ ap (λ (t : List ℕ). t ++ end) (append_assoc old (head ++ text) behind)
      ∙ append_assoc old ((head ++ text) ++ behind) end

  joined : (text : List ℕ) → mid ≡ (old ++ head) ++ (text ++ 10 ∷ []) → OnOk result (new ≡ old ++ (((head ++ text) ++ 32 ∷ decimal n) ++ 10 ∷ []))
  joined text is =
      ok_map _ _ result (λ done. done ∙ moved text (32 ∷ decimal n) (10 ∷ []))
      (puts ((old ++ head) ++ text) (is ∙ sym (append_assoc (old ++ head) text (10 ∷ []))))

  pub numbered_line : (a : Answer) → is_silent a ≡ false → mid ≡ (old ++ head) ++ answer_bytes a → OnOk result (new ≡ old ++ answer_line head (number_text (Some n)) a)
  numbered_line answer.Nothing not_so is = absurd (true≢false not_so)
  numbered_line (answer.Fault fault) not_so is = joined (fault_text fault) is
  numbered_line (answer.Held held) not_so is = joined (held_text held) is
  numbered_line (answer.Replied r) not_so is = joined (reply_text r) is
