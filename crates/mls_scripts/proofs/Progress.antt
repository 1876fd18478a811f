-- How far a script has come.
use Rattle.std.proofs.Common.{◌≡◌, ℕ, ◌+◌, ◌<◌, ◌≤◌, arith, List, [], ◌∷◌, ◌++◌, Option, Some, None, Result, Ok, Err, false, length, take, sym, refl, ap, ◌∙◌, subst, append_assoc, append-nil, length-append, IfSome, inl, inr}
use Rattle.std.proofs.lemmas.List.{take_all, take-append-le}
use Rattle.std.proofs.Math.Seq.{take-append-add}
use Rattle.std.proofs.KnownBytes.{Consumes-trans, Consumes-nil, Consumes-kept}
use Rattle.std.specs.Io.KnownBytes.{Consumes, Keeps, IsAtEnd}
use Rattle.mls_scripts.specs.Lines.{lines_of, has_newline, open_part, closed_lines, kept_of}
use Rattle.mls_lines.specs.Names.{Names}
use Rattle.mls_lines.specs.LineView.{LineView, Blank, Asks}
use Rattle.mls_lines.specs.ScriptLine.{line_of}
use Rattle.mls_requests.specs.declared.ask.Ask.TheVariants.{Submit, Check}
use Rattle.mls_lines.specs.declared.fault.LineFault.{LineFault}
use Rattle.mls_scripts.specs.Script.{Standing, after_lines, after_line, left_by}
use Rattle.mls_scripts.specs.Serve.{Answers, AnswersUnlessRefused, Fails, TakesPiece, Due, ScriptEnds}
use Rattle.mls_scripts.specs.declared.serving.ServeFault.{ServeFault}
use Rattle.mls_scripts.specs.declared.serving.ServeFault.TheVariants.{Read, Write, Memory, TooLong}
use Rattle.mls_scripts.proofs.LineLemmas.{open_part_is_open, open-append, lines_of-parts}
use Rattle.mls_scripts.proofs.Kept.{length-kept_of}
use Rattle.mls_scripts.proofs.Runs.{answered_none, answered_more, failed_more, Answers-trans, Fails-after}

-- the script, by what was taken, what was taken last, and what is left
whole : (given left next : Option (List ℕ)) (taken more : List ℕ) (P : Type 0) → Consumes given left taken → Consumes left next more
    → ((script rest : List ℕ) → IfSome given (λ known. script ≡ known) → script ≡ (taken ++ more) ++ rest → (IsAtEnd next → rest ≡ []) → P) → P
whole None left next taken more P c d k = k ((taken ++ more) ++ []) [] tt refl (λ _. refl)
whole (Some script) None next taken more P c d k = absurd c
whole (Some script) (Some left) None taken more P c d k = absurd d
whole (Some script) (Some left) (Some rest) taken more P c d k = k script rest refl (c ∙ ap (λ r. taken ++ r) d ∙ sym (append_assoc taken more rest)) (λ end. end)

-- what is within the limit of what was taken
within_limit : (taken bytes : List ℕ) (room : ℕ) → length taken + room ≡ 1048576 → take 1048576 (taken ++ bytes) ≡ taken ++ take room bytes
within_limit taken bytes room counted = ap (λ k. take k (taken ++ bytes)) (sym counted) ∙ take-append-add taken bytes room

-- what was taken is all, where nothing is left
all_of : (script taken rest : List ℕ) → script ≡ (taken ++ []) ++ rest → rest ≡ [] → taken ≡ script
all_of script taken rest split end = sym (split ∙ ap (λ r. (taken ++ []) ++ r) end ∙ append-nil (taken ++ []) ∙ append-nil taken)

module _ (names : Names) (session : ℕ) where
  -- what a piece leaves, by the names and the session that are the same
  same_takes : {X : Type 0} (names_now : Names) (session_now : ℕ) (held holds : Option (List ℕ)) (before after : Standing) (kept keeps piece : List ℕ) (result : Result X ServeFault) → names_now ≡ names → session_now ≡ session
      → TakesPiece names_now session_now held holds before after kept keeps piece result → TakesPiece names session held holds before after kept keeps piece result
  same_takes names_now session_now held holds before after kept keeps piece result same_names same_session t =
      subst (λ n. TakesPiece n session held holds before after kept keeps piece result) same_names (subst (λ s. TakesPiece names_now s held holds before after kept keeps piece result) same_session t)

  -- the bytes that were taken: their complete lines are answered, and what is needed of the open one is kept
  pub record SoFar (given left held holds : Option (List ℕ)) (before after : Standing) (kept : List ℕ) (room : ℕ) : Type 0 where
    pub taken : List ℕ
    pub consumed : Consumes given left taken
    pub counted : length taken + room ≡ 1048576
    pub answered : Answers names session held holds before after (closed_lines taken)
    pub kept_is : kept ≡ kept_of (open_part taken)

  pub so_far_none : (given held : Option (List ℕ)) (before : Standing) → SoFar given given held held before before [] 1048576
  so_far_none given held before = record { taken = []; consumed = Consumes-nil given; counted = refl; answered = answered_none names session held before; kept_is = refl }

  pub so_far_short : (given left held holds : Option (List ℕ)) (before after : Standing) (kept : List ℕ) (room : ℕ) → SoFar given left held holds before after kept room → length kept ≤ 20001
  so_far_short given left held holds before after kept room s = length-kept_of kept (open_part s.taken) s.kept_is

  pub so_far_more : (names_now : Names) (session_now : ℕ) (given left next held holds later_holds : Option (List ℕ)) (before after later : Standing) (kept keeps bytes more : List ℕ) (room rest n : ℕ)
      → SoFar given left held holds before after kept room → Consumes left next bytes → length bytes ≡ n → rest + n ≡ room → more ≡ take room bytes
      → names_now ≡ names → session_now ≡ session
      → TakesPiece {X = Unit {0}} names_now session_now holds later_holds after later kept keeps more (Ok tt)
      → SoFar given next held later_holds before later keeps rest
  so_far_more names_now session_now given left next held holds later_holds before after later kept keeps bytes more room rest n s c count fits is same_names same_session f =
      let all : more ≡ bytes = is ∙ take_all room bytes (omega (arith, count, fits)) in
      let fed = same_takes {X = Unit {0}} names_now session_now holds later_holds after later kept keeps more (Ok tt) same_names same_session f (open_part s.taken) (open_part_is_open s.taken) s.kept_is in
      record {
        taken = s.taken ++ bytes;
        consumed = Consumes-trans given left next s.taken bytes s.consumed c;
        counted = simp length-append (omega (arith, s.counted, count, fits));
        answered = subst (λ m. Answers names session held later_holds before later (closed_lines (s.taken ++ m))) all (answered_more names session held holds later_holds before after later s.taken more s.answered fed.0);
        kept_is = fed.1 ∙ ap (λ m. kept_of (open_part (open_part s.taken ++ m))) all ∙ ap kept_of (sym (open-append s.taken bytes));
      }

  pub serves_read : (given left next held holds : Option (List ℕ)) (before after : Standing) (kept : List ℕ) (room : ℕ)
      → SoFar given left held holds before after kept room → Keeps left next → ScriptEnds names session given next held holds before after (Err Read)
  serves_read given left next held holds before after kept room s k =
      record { taken = s.taken; consumed = Consumes-kept given left next s.taken s.consumed k; few = omega (arith, s.counted); answered = s.answered }

  -- a fault, by what was read and the lines that were to be answered
  fails_due : (given next held holds : Option (List ℕ)) (before after : Standing) (fault : ServeFault) (taken : List ℕ) (lines : List (List ℕ)) → Consumes given next taken → Due next taken lines
      → Fails names session held holds before after lines fault → ScriptEnds names session given next held holds before after (Err fault)
  fails_due given next held holds before after Read taken lines c d s = absurd s
  fails_due given next held holds before after Write taken lines c d s = record { taken = taken; lines = lines; consumed = c; due = d; holds = s }
  fails_due given next held holds before after Memory taken lines c d s = record { taken = taken; lines = lines; consumed = c; due = d; holds = s }
  fails_due given next held holds before after TooLong taken lines c d s = absurd s

  -- no memory for what a script needs: nothing was read
  pub serves_nothing : (given held : Option (List ℕ)) (before : Standing) → ScriptEnds names session given given held held before before (Err Memory)
  serves_nothing given held before = record { taken = []; lines = []; consumed = Consumes-nil given; due = inl refl; holds = inl (answered_none names session held before) }

  -- a fault while the lines of the last bytes are answered
  pub serves_stop : (names_now : Names) (session_now : ℕ) (given left next held holds later_holds : Option (List ℕ)) (before after later : Standing) (kept keeps bytes more : List ℕ) (room : ℕ) (fault : ServeFault)
      → SoFar given left held holds before after kept room → Consumes left next bytes → more ≡ take room bytes
      → names_now ≡ names → session_now ≡ session
      → TakesPiece {X = Unit {0}} names_now session_now holds later_holds after later kept keeps more (Err fault) → ScriptEnds names session given next held later_holds before later (Err fault)
  serves_stop names_now session_now given left next held holds later_holds before after later kept keeps bytes more room fault s c is same_names same_session f =
      fails_due given next held later_holds before later fault (s.taken ++ bytes) (closed_lines (s.taken ++ more))
      (Consumes-trans given left next s.taken bytes s.consumed c)
      (inl (ap closed_lines (sym (within_limit s.taken bytes room s.counted ∙ ap (λ t. s.taken ++ t) (sym is)))))
      (failed_more names session held holds later_holds before after later s.taken more fault s.answered
      (same_takes {X = Unit {0}} names_now session_now holds later_holds after later kept keeps more (Err fault) same_names same_session f (open_part s.taken) (open_part_is_open s.taken) s.kept_is))

  -- a fault at the last line, which no newline ends
  pub serves_stop_last : (names_now : Names) (session_now : ℕ) (given left next held holds later_holds : Option (List ℕ)) (before after later : Standing) (kept : List ℕ) (room : ℕ) (fault : ServeFault)
      → SoFar given left held holds before after kept room → Consumes left next [] → IsAtEnd next
      → names_now ≡ names → session_now ≡ session
      → ((line : List ℕ) → has_newline line ≡ false → kept ≡ kept_of line → Fails names_now session_now holds later_holds after later (lines_of line) fault)
      → ScriptEnds names session given next held later_holds before later (Err fault)
  serves_stop_last names_now session_now given left next held holds later_holds before after later kept room fault s c end same_names same_session stop =
      let all : Fails names session held later_holds before later (lines_of s.taken) fault =
      subst (λ ls. Fails names session held later_holds before later ls fault) (sym (lines_of-parts s.taken))
      (Fails-after names session held holds later_holds before after later _ _ fault s.answered
      (subst (λ n. Fails n session holds later_holds after later (lines_of (open_part s.taken)) fault) same_names
      (subst (λ s'. Fails names_now s' holds later_holds after later (lines_of (open_part s.taken)) fault) same_session (stop (open_part s.taken) (open_part_is_open s.taken) s.kept_is)))) in
      fails_due given next held later_holds before later fault s.taken (lines_of s.taken)
      (subst (Consumes given next) (append-nil s.taken) (Consumes-trans given left next s.taken [] s.consumed c))
      (inr (end, omega (arith, s.counted), refl)) all

  -- all of a script was answered
  pub serves_all : (names_now : Names) (session_now : ℕ) (given left next held holds later_holds : Option (List ℕ)) (before after later : Standing) (kept : List ℕ) (room n : ℕ)
      → SoFar given left held holds before after kept room → Consumes left next [] → IsAtEnd next
      → names_now ≡ names → session_now ≡ session
      → ((line : List ℕ) → has_newline line ≡ false → kept ≡ kept_of line → Answers names_now session_now holds later_holds after later (lines_of line))
      → length later.entries ≡ length before.entries + n → ScriptEnds names session given next held later_holds before later (Ok n)
  serves_all names_now session_now given left next held holds later_holds before after later kept room n s c end same_names same_session answered added =
      let all : Answers names session held later_holds before later (lines_of s.taken) =
      subst (Answers names session held later_holds before later) (sym (lines_of-parts s.taken))
      (Answers-trans names session held holds later_holds before after later _ _ s.answered
      (subst (λ n. Answers n session holds later_holds after later (lines_of (open_part s.taken))) same_names
      (subst (λ s'. Answers names_now s' holds later_holds after later (lines_of (open_part s.taken))) same_session (answered (open_part s.taken) (open_part_is_open s.taken) s.kept_is)))) in
      whole given left next s.taken [] (ScriptEnds names session given next held later_holds before later (Ok n)) s.consumed c
      (λ script rest is split ends.
      let is_all : s.taken ≡ script = all_of script s.taken rest split (ends end) in
      let fits : length script ≤ 1048576 = subst (λ t. length t ≤ 1048576) is_all (omega (arith, s.counted)) in
      (script, is, (fits, subst (λ t. Answers names session held later_holds before later (lines_of t)) is_all all, added)))

  -- the script goes on past its limit
  pub serves_too_long : (names_now : Names) (session_now : ℕ) (given left next held holds later_holds : Option (List ℕ)) (before after later : Standing) (kept keeps bytes more : List ℕ) (room n : ℕ)
      → SoFar given left held holds before after kept room → Consumes left next bytes → length bytes ≡ n → room < n → more ≡ take room bytes
      → names_now ≡ names → session_now ≡ session
      → TakesPiece {X = Unit {0}} names_now session_now holds later_holds after later kept keeps more (Ok tt) → ScriptEnds names session given next held later_holds before later (Err TooLong)
  serves_too_long names_now session_now given left next held holds later_holds before after later kept keeps bytes more room n s c count beyond is same_names same_session f =
      let front = s.taken ++ more in
      let all : Answers names session held later_holds before later (closed_lines front) =
      answered_more names session held holds later_holds before after later s.taken more s.answered
      (same_takes {X = Unit {0}} names_now session_now holds later_holds after later kept keeps more (Ok tt) same_names same_session f (open_part s.taken) (open_part_is_open s.taken) s.kept_is).0 in
      whole given left next s.taken bytes (ScriptEnds names session given next held later_holds before later (Err TooLong)) s.consumed c
      (λ script rest is_script split ends.
      let is_front : take 1048576 script ≡ front =
      ap (take 1048576) split ∙ take-append-le 1048576 (s.taken ++ bytes) rest (simp length-append (omega (arith, s.counted, count, beyond)))
      ∙ within_limit s.taken bytes room s.counted ∙ ap (λ t. s.taken ++ t) (sym is) in
      let over : 1048576 < length script = rw split (simp length-append (omega (arith, s.counted, count, beyond))) in
      (script, is_script, (over, subst (λ t. Answers names session held later_holds before later (closed_lines t)) (sym is_front) all)))

  left_grows : (s : Standing) (said : Result LineView LineFault) → length s.entries ≤ length (left_by session s said).entries
  left_grows s (Err fault) = omega arith
  left_grows s (Ok Blank) = omega arith
  left_grows s (Ok (Asks bind (Check t o x))) = omega arith
  left_grows s (Ok (Asks bind (Submit r))) = simp length-append (omega arith)

  line_grows : (s : Standing) (line : List ℕ) → length s.entries ≤ length (after_line names session s line).entries
  unfolding after_line
  line_grows s line = left_grows s (line_of names s.vars line)

  journal_grows : (s : Standing) (lines : List (List ℕ)) → length s.entries ≤ length (after_lines names session s lines).entries
  unfolding after_lines
  journal_grows s [] = omega arith
  journal_grows s (line ∷ lines) = omega (arith, line_grows s line, journal_grows (after_line names session s line) lines)

  -- no entry is lost
  pub answered_grows : (held holds : Option (List ℕ)) (before after : Standing) (lines : List (List ℕ)) → Answers names session held holds before after lines → length before.entries ≤ length after.entries
  answered_grows held holds before after lines s = subst (λ j. length before.entries ≤ length j.entries) (sym s.stands) (journal_grows before lines)

  pub so_far_grows : (given left held holds : Option (List ℕ)) (before after : Standing) (kept : List ℕ) (room : ℕ) → SoFar given left held holds before after kept room → length before.entries ≤ length after.entries
  so_far_grows given left held holds before after kept room s = answered_grows held holds before after (closed_lines s.taken) s.answered

  left_start : (s : Standing) (said : Result LineView LineFault) → (left_by session s said).start ≡ s.start
  left_start s (Err fault) = refl
  left_start s (Ok Blank) = refl
  left_start s (Ok (Asks bind (Check t o x))) = refl
  left_start s (Ok (Asks bind (Submit r))) = refl

  line_start : (s : Standing) (line : List ℕ) → (after_line names session s line).start ≡ s.start
  unfolding after_line
  line_start s line = left_start s (line_of names s.vars line)

  lines_start : (s : Standing) (lines : List (List ℕ)) → (after_lines names session s lines).start ≡ s.start
  unfolding after_lines
  lines_start s [] = refl
  lines_start s (line ∷ lines) = lines_start (after_line names session s line) lines ∙ line_start s line

  unless_start : (held holds : Option (List ℕ)) (before after : Standing) (lines : List (List ℕ)) → AnswersUnlessRefused names session held holds before after lines → after.start ≡ before.start
  unless_start held holds before after lines (inl s) = ap (λ (t : Standing). t.start) s.stands ∙ lines_start before lines
  unless_start held holds before after lines (inr s) = ap (λ (t : Standing). t.start) s.answered.stands ∙ lines_start before s.front

  fails_start : (held holds : Option (List ℕ)) (before after : Standing) (lines : List (List ℕ)) (fault : ServeFault) → Fails names session held holds before after lines fault → after.start ≡ before.start
  fails_start held holds before after lines Read s = absurd s
  fails_start held holds before after lines Write (inl s) = ap (λ (t : Standing). t.start) s.asked ∙ lines_start before (s.front ++ s.line ∷ [])
  fails_start held holds before after lines Write (inr s) = ap (λ (t : Standing). t.start) s.stands ∙ lines_start before lines
  fails_start held holds before after lines Memory s = unless_start held holds before after lines s
  fails_start held holds before after lines TooLong s = absurd s

  -- whatever the result, the start stays
  pub ends_start : (given left held holds : Option (List ℕ)) (before after : Standing) (result : Result ℕ ServeFault) → ScriptEnds names session given left held holds before after result → after.start ≡ before.start
  ends_start given left held holds before after (Ok n) (script, is, (fits, s, added)) = ap (λ (t : Standing). t.start) s.stands ∙ lines_start before (lines_of script)
  ends_start given left held holds before after (Err Read) s = ap (λ (t : Standing). t.start) s.answered.stands ∙ lines_start before (closed_lines s.taken)
  ends_start given left held holds before after (Err Write) s = fails_start held holds before after s.lines Write s.holds
  ends_start given left held holds before after (Err Memory) s = fails_start held holds before after s.lines Memory s.holds
  ends_start given left held holds before after (Err TooLong) (script, is, (over, s)) = ap (λ (t : Standing). t.start) s.stands ∙ lines_start before (closed_lines (take 1048576 script))

-- no entry is lost at the end
pub end_grows : (names names_now : Names) (session session_now : ℕ) (given left held holds later_holds : Option (List ℕ)) (before after later : Standing) (kept : List ℕ) (room : ℕ) → SoFar names session given left held holds before after kept room
    → ((line : List ℕ) → has_newline line ≡ false → kept ≡ kept_of line → Answers names_now session_now holds later_holds after later (lines_of line))
    → length after.entries ≤ length later.entries
end_grows names names_now session session_now given left held holds later_holds before after later kept room s answered =
    answered_grows names_now session_now holds later_holds after later _ (answered (open_part s.taken) (open_part_is_open s.taken) s.kept_is)
