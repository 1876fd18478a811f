-- What a writer took of a text.
use Rattle.std.proofs.Common.{◌≡◌, ℕ, ◌-◌, ◌≤◌, arith, List, [], ◌∷◌, ◌++◌, Option, Result, Ok, Err, length, take, drop, sym, ap, ◌∙◌, subst, append_assoc, take-append-drop}
use Rattle.std.proofs.lemmas.Slice.{between_to_end}
use Rattle.mls_lines.specs.declared.fault.LineFault.{LineFault}
use Rattle.mls_lines.specs.declared.fault.LineFault.TheVariants.{BadForm, UnknownName, BadLabel}
use Rattle.mls_lines.specs.Fault.{fault_text}
use Rattle.mls_lines.specs.Names.{Names}
use Rattle.mls_lines.specs.ScriptLine.{line_of}
use Rattle.mls_scripts.specs.declared.answer.Answer.{Answer}
use Rattle.mls_scripts.specs.Script.{Standing, said_to, left_by, answer_bytes, answer_to, after_line}
use Rattle.mls_scripts.specs.Serve.{Writes, Replies}
use Rattle.mls_scripts.specs.declared.serving.ServeFault.{ServeFault}
use Rattle.mls_scripts.specs.declared.serving.ServeFault.TheVariants.{Read, Write, Memory, TooLong}

-- what was taken from a rest joins what was taken before
pub taken_more : (text written rest : List ℕ) (n : ℕ) → text ≡ written ++ rest → text ≡ (written ++ take n rest) ++ take (length rest - n) (drop n rest)
taken_more text written rest n whole =
    whole ∙ ap (λ r. written ++ r) (sym (ap (λ d. take n rest ++ d) (between_to_end rest n (length rest) (omega arith)) ∙ take-append-drop n rest)) ∙ sym (append_assoc written (take n rest) _)

-- every fault's text has room in a line
pub fault_fits : (f : LineFault) → length (fault_text f) ≤ 40
fault_fits BadForm = omega arith
fault_fits UnknownName = omega arith
fault_fits BadLabel = omega arith

-- two words that are those of a text
pub written_pair : {X : Type 0} (held holds : Option (List ℕ)) (first second word told : List ℕ) (result : Result X ServeFault) → first ≡ word → second ≡ told
    → Writes held holds (first ++ 32 ∷ second ++ 10 ∷ []) result → Writes held holds (word ++ 32 ∷ told ++ 10 ∷ []) result
written_pair held holds first second word told result same_word same_told w =
    subst (λ f. Writes held holds (f ++ 32 ∷ told ++ 10 ∷ []) result) same_word (subst (λ s. Writes held holds (first ++ 32 ∷ s ++ 10 ∷ []) result) same_told w)

-- an answer that was written, or broke off, after its line was asked
pub written_reply : {X : Type 0} (held holds : Option (List ℕ)) (before after next : Standing) (text : List ℕ) (result : Result X ServeFault)
    → Writes held holds text result → after ≡ next → Replies held holds before after text next result
written_reply held holds before after next text (Ok x) w stands = (w, stands)
written_reply held holds before after next text (Err Read) w stands = w
written_reply held holds before after next text (Err Write) w stands = (w.0, w.1, w.2, w.3, w.4, stands)
written_reply held holds before after next text (Err Memory) w stands = absurd w
written_reply held holds before after next text (Err TooLong) w stands = w

-- the answer to a line that was written, or broke off, after the line was asked
pub written_answer : {X : Type 0} (held holds : Option (List ℕ)) (names : Names) (session : ℕ) (before after : Standing) (line : List ℕ) (answer : Answer) (result : Result X ServeFault)
    → Writes held holds (answer_bytes answer) result → answer ≡ said_to before (line_of names before.vars line) → after ≡ left_by session before (line_of names before.vars line)
    → Replies held holds before after (answer_to names before line) (after_line names session before line) result
unfolding answer_to after_line
written_answer held holds names session before after line answer result w said stands =
    written_reply held holds before after _ _ result (subst (λ a. Writes held holds (answer_bytes a) result) said w) stands
