-- What the lines of one piece of a script come to.
use Rattle.std.proofs.Math.Dec.{eqb-suc-zero}
use Rattle.std.proofs.Common.{◌≡◌, ℕ, ◌<◌, arith, List, [], ◌∷◌, ◌++◌, Option, Result, Ok, Err, OnOk, IfErr, false, true, length, sym, refl, ap, ◌∙◌, subst, append_assoc, append-nil, eqb, inl, inr, ◌⊎◌, MatchResult}
use Rattle.std.specs.Io.KnownBytes.{Keeps}
use Rattle.mls_scripts.specs.Lines.{lines_of, closed_lines, open_part, has_newline, kept_of, Cuts}
use Rattle.mls_lines.specs.Names.{Names}
use Rattle.mls_scripts.specs.Script.{Standing, answer_to, after_line}
use Rattle.mls_scripts.specs.Serve.{Answers, Stops, AnswersOrStops, AnswersOrFails, Replies, Feeds, TakesPiece}
use Rattle.mls_scripts.specs.declared.serving.ServeFault.{ServeFault}
use Rattle.mls_scripts.specs.declared.serving.ServeFault.TheVariants.{Write, Memory}
use Rattle.mls_scripts.proofs.LineLemmas.{closed_lines-cuts, open_part-cuts, closed_lines-open, open_none, has_newline-joined, last_line}
use Rattle.mls_scripts.proofs.Kept.{kept_of-joined, kept_nothing, kept_something, answer_to-kept, after_line-kept}
use Rattle.mls_scripts.proofs.Runs.{answered_none, replied_one, Answers-trans, Answers-kept, Stops-front, Stops-after, Stops-flushed, settled, flush_failed}

some_byte : (kept : List ℕ) → 0 < length kept → false ≡ eqb (length kept) 0
some_byte [] some = absurd (omega (arith, some))
some_byte (b ∷ kept) some = sym (eqb-suc-zero (length kept))

module _ (names : Names) (session : ℕ) where
  -- how far a piece is answered: the lines before what is left of it
  pub record Cut (held holds : Option (List ℕ)) (before after : Standing) (piece rest : List ℕ) : Type 0 where
    pub lines : List (List ℕ)
    pub whole : closed_lines piece ≡ lines ++ closed_lines rest
    pub left : open_part piece ≡ open_part rest
    pub answered : Answers names session held holds before after lines

  pub cut_none : (held : Option (List ℕ)) (before : Standing) (piece : List ℕ) → Cut held held before before piece piece
  cut_none held before piece = record { lines = []; whole = refl; left = refl; answered = answered_none names session held before }

  cut_lines : (lines : List (List ℕ)) (piece rest line next : List ℕ) → closed_lines piece ≡ lines ++ closed_lines rest → Cuts rest line next
      → closed_lines piece ≡ (lines ++ line ∷ []) ++ closed_lines next
  cut_lines lines piece rest line next whole cuts =
      whole ∙ ap (λ ls. lines ++ ls) (closed_lines-cuts [] rest line next refl cuts) ∙ sym (append_assoc lines (line ∷ []) (closed_lines next))

  -- a reply, by the names and the session that are the same
  same_reply : {X : Type 0} (held holds : Option (List ℕ)) (before after : Standing) (line : List ℕ) (names_now : Names) (session_now : ℕ) (result : Result X ServeFault) → names_now ≡ names → session_now ≡ session
      → Replies held holds before after (answer_to names_now before line) (after_line names_now session_now before line) result
      → Replies held holds before after (answer_to names before line) (after_line names session before line) result
  same_reply held holds before after line names_now session_now result same_names same_session reply =
      subst (λ text. Replies held holds before after text (after_line names session before line) result) (ap (λ n. answer_to n before line) same_names)
      (subst (λ next. Replies held holds before after (answer_to names_now before line) next result)
      (ap (λ n. after_line n session_now before line) same_names ∙ ap (λ s. after_line names s before line) same_session) reply)

  -- one line more, by the names and the session that are the same
  pub cut_more : (held holds kept : Option (List ℕ)) (before after later : Standing) (piece rest line next : List ℕ) (names_now : Names) (session_now : ℕ)
      → Cut held holds before after piece rest → Cuts rest line next → names_now ≡ names → session_now ≡ session
      → Replies {X = Unit {0}} holds kept after later (answer_to names_now after line) (after_line names_now session_now after line) (Ok tt)
      → Cut held kept before later piece next
  cut_more held holds kept before after later piece rest line next names_now session_now cut cuts same_names same_session reply = record {
    lines = cut.lines ++ line ∷ [];
    whole = cut_lines cut.lines piece rest line next cut.whole cuts;
    left = cut.left ∙ open_part-cuts [] rest line next cuts;
    answered = Answers-trans names session held holds kept before after later cut.lines (line ∷ []) cut.answered
        (replied_one names session {X = Unit {0}} holds kept after later line (Ok tt) (same_reply {X = Unit {0}} holds kept after later line names_now session_now (Ok tt) same_names same_session reply));
  }

  -- a stop at the next line
  pub cut_stop : (held holds kept : Option (List ℕ)) (before after later : Standing) (piece rest line next : List ℕ) (names_now : Names) (session_now : ℕ) (fault : ServeFault)
      → Cut held holds before after piece rest → Cuts rest line next → names_now ≡ names → session_now ≡ session
      → Replies {X = Unit {0}} holds kept after later (answer_to names_now after line) (after_line names_now session_now after line) (Err fault)
      → Stops names session held kept before later (closed_lines piece) fault
  cut_stop held holds kept before after later piece rest line next names_now session_now fault cut cuts same_names same_session reply =
      let here : Stops names session holds kept after later (line ∷ []) fault =
      replied_one names session {X = Unit {0}} holds kept after later line (Err fault) (same_reply {X = Unit {0}} holds kept after later line names_now session_now (Err fault) same_names same_session reply) in
      subst (λ ls. Stops names session held kept before later ls fault) (sym (cut_lines cut.lines piece rest line next cut.whole cuts))
      (Stops-front names session held kept before later (cut.lines ++ line ∷ []) (closed_lines next) fault
      (Stops-after names session held holds kept before after later cut.lines (line ∷ []) fault cut.answered here))

  -- no line more
  pub cut_end : (held holds : Option (List ℕ)) (before after : Standing) (piece rest : List ℕ) → Cut held holds before after piece rest → has_newline rest ≡ false
      → Answers names session held holds before after (closed_lines piece)
  cut_end held holds before after piece rest cut none =
      subst (Answers names session held holds before after) (sym (cut.whole ∙ ap (λ ls. cut.lines ++ ls) (closed_lines-open rest none) ∙ append-nil cut.lines)) cut.answered

  pub cut_left : (held holds : Option (List ℕ)) (before after : Standing) (piece rest : List ℕ) → Cut held holds before after piece rest → has_newline rest ≡ false
      → rest ≡ open_part piece
  cut_left held holds before after piece rest cut none = sym (cut.left ∙ open_none rest none)

  -- a piece after nothing
  pub feeds_alone : (held holds : Option (List ℕ)) (before after : Standing) (kept keeps piece : List ℕ) (result : Result (Unit {0}) ServeFault)
      → true ≡ eqb (length kept) 0
      → AnswersOrStops names session held holds before after (closed_lines piece) result → OnOk result (keeps ≡ kept_of (open_part piece))
      → Feeds names session held holds before after kept keeps piece result
  feeds_alone held holds before after kept keeps piece (Ok x) empty a k line none is = rw (kept_nothing kept line empty is) (a, k)
  feeds_alone held holds before after kept keeps piece (Err fault) empty a k line none is = rw (kept_nothing kept line empty is) a

  -- lines that were answered, whether or not what stands after them could be kept
  pub answered_then_kept : {X : Type 0} (held holds : Option (List ℕ)) (before after : Standing) (lines : List (List ℕ)) (kept : Result X ServeFault)
      → Answers names session held holds before after lines → IfErr kept (λ fault. fault ≡ Memory) → AnswersOrStops names session held holds before after lines kept
  answered_then_kept held holds before after lines (Ok x) a e = a
  answered_then_kept held holds before after lines (Err fault) a e = rw e (inl a)

  none_closed : (held : Option (List ℕ)) (before : Standing) (line piece : List ℕ) → has_newline line ≡ false → has_newline piece ≡ false
      → Answers names session held held before before (closed_lines (line ++ piece))
  none_closed held before line piece none no_more =
      subst (Answers names session held held before before) (sym (closed_lines-open (line ++ piece) (has_newline-joined line piece none no_more))) (answered_none names session held before)

  -- a piece that ends no line
  pub feeds_open : (held : Option (List ℕ)) (before : Standing) (kept keeps piece : List ℕ) (result : Result (Unit {0}) ServeFault)
      → has_newline piece ≡ false → OnOk result (keeps ≡ kept_of (kept ++ piece)) → IfErr result (λ fault. fault ≡ Memory)
      → Feeds names session held held before before kept keeps piece result
  feeds_open held before kept keeps piece (Ok x) no_more k e line none is =
      let still : has_newline (line ++ piece) ≡ false = has_newline-joined line piece none no_more in (
        none_closed held before line piece none no_more,
        k ∙ ap (λ l. kept_of (l ++ piece)) is ∙ kept_of-joined line piece ∙ ap kept_of (sym (open_none (line ++ piece) still)),
      )
  feeds_open held before kept keeps piece (Err fault) no_more k e line none is = rw e (inl (none_closed held before line piece none no_more))

  -- the kept line with its end is answered as the line is
  ended : {X : Type 0} (held holds : Option (List ℕ)) (before after : Standing) (kept line last : List ℕ) (result : Result X ServeFault) → kept ≡ kept_of line
      → Replies held holds before after (answer_to names before (kept_of (kept ++ last))) (after_line names session before (kept_of (kept ++ last))) result
      → AnswersOrStops names session held holds before after ((line ++ last) ∷ []) result
  ended held holds before after kept line last result is reply =
      let same : kept_of (kept ++ last) ≡ kept_of (line ++ last) = ap (λ l. kept_of (l ++ last)) is ∙ kept_of-joined line last in
      replied_one names session held holds before after (line ++ last) result
      (subst (λ text. Replies held holds before after text (after_line names session before (line ++ last)) result)
      (ap (answer_to names before) same ∙ answer_to-kept names before (line ++ last))
      (subst (λ next. Replies held holds before after (answer_to names before (kept_of (kept ++ last))) next result)
      (ap (after_line names session before) same ∙ after_line-kept names session before (line ++ last)) reply))

  -- a stop at the line that the piece ends
  pub feeds_stop : (held holds : Option (List ℕ)) (before after : Standing) (kept keeps piece last rest : List ℕ) (fault : ServeFault) → Cuts piece last rest
      → Replies {X = Unit {0}} held holds before after (answer_to names before (kept_of (kept ++ last))) (after_line names session before (kept_of (kept ++ last))) (Err fault)
      → Feeds {X = Unit {0}} names session held holds before after kept keeps piece (Err fault)
  feeds_stop held holds before after kept keeps piece last rest fault cuts reply line none is =
      subst (λ ls. Stops names session held holds before after ls fault) (sym (closed_lines-cuts line piece last rest none cuts))
      (Stops-front names session held holds before after ((line ++ last) ∷ []) (closed_lines rest) fault
      (ended {X = Unit {0}} held holds before after kept line last (Err fault) is reply))

  feeds_rest : (held holds later_holds : Option (List ℕ)) (before after later : Standing) (kept keeps piece last rest : List ℕ) (result : Result (Unit {0}) ServeFault)
      → Cuts piece last rest
      → Replies {X = Unit {0}} held holds before after (answer_to names before (kept_of (kept ++ last))) (after_line names session before (kept_of (kept ++ last))) (Ok tt)
      → AnswersOrStops names session holds later_holds after later (closed_lines rest) result → OnOk result (keeps ≡ kept_of (open_part rest))
      → Feeds names session held later_holds before later kept keeps piece result
  feeds_rest held holds later_holds before after later kept keeps piece last rest (Ok y) cuts reply a k line none is =
      let first : Answers names session held holds before after ((line ++ last) ∷ []) = ended {X = Unit {0}} held holds before after kept line last (Ok tt) is reply in (
        subst (Answers names session held later_holds before later) (sym (closed_lines-cuts line piece last rest none cuts))
            (Answers-trans names session held holds later_holds before after later ((line ++ last) ∷ []) (closed_lines rest) first a),
        k ∙ ap kept_of (sym (open_part-cuts line piece last rest cuts)),
      )
  feeds_rest held holds later_holds before after later kept keeps piece last rest (Err fault) cuts reply a k line none is =
      let first : Answers names session held holds before after ((line ++ last) ∷ []) = ended {X = Unit {0}} held holds before after kept line last (Ok tt) is reply in
      subst (λ ls. Stops names session held later_holds before later ls fault) (sym (closed_lines-cuts line piece last rest none cuts))
      (Stops-after names session held holds later_holds before after later ((line ++ last) ∷ []) (closed_lines rest) fault first a)

  -- the line that the piece ends, and then the others, by the names and the session that are the same
  pub feeds_on : (held holds later_holds : Option (List ℕ)) (before after later : Standing) (kept keeps piece last rest : List ℕ) (names_now : Names) (session_now : ℕ) (result : Result (Unit {0}) ServeFault)
      → Cuts piece last rest
      → Replies {X = Unit {0}} held holds before after (answer_to names before (kept_of (kept ++ last))) (after_line names session before (kept_of (kept ++ last))) (Ok tt)
      → names_now ≡ names → session_now ≡ session
      → AnswersOrStops names_now session_now holds later_holds after later (closed_lines rest) result → OnOk result (keeps ≡ kept_of (open_part rest))
      → Feeds names session held later_holds before later kept keeps piece result
  feeds_on held holds later_holds before after later kept keeps piece last rest names_now session_now result cuts reply same_names same_session a k =
      feeds_rest held holds later_holds before after later kept keeps piece last rest result cuts reply
      (subst (λ n. AnswersOrStops n session holds later_holds after later (closed_lines rest) result) same_names (subst (λ s. AnswersOrStops names_now s holds later_holds after later (closed_lines rest) result) same_session a)) k

  -- a piece, once the writer was flushed
  pub feeds_settled : (held holds flushed : Option (List ℕ)) (before after : Standing) (kept keeps piece : List ℕ) (outcome result : Result (Unit {0}) ServeFault)
      → Feeds names session held holds before after kept keeps piece outcome → Keeps holds flushed
      → MatchResult outcome (λ _. (result ≡ outcome) ⊎ (result ≡ Err Write)) (λ _. result ≡ outcome)
      → TakesPiece names session held flushed before after kept keeps piece result
  feeds_settled held holds flushed before after kept keeps piece (Ok x) result f k (inl same) line none is =
      rw same (Answers-kept names session held holds flushed before after (closed_lines (line ++ piece)) (f line none is).0 k, (f line none is).1)
  feeds_settled held holds flushed before after kept keeps piece (Ok x) result f k (inr failed) line none is =
      rw failed (flush_failed names session held holds flushed before after (closed_lines (line ++ piece)) (f line none is).0 k)
  feeds_settled held holds flushed before after kept keeps piece (Err fault) result f k same line none is =
      rw same (Stops-flushed names session held holds flushed before after (closed_lines (line ++ piece)) fault (f line none is) k)

  -- the end of a script that has no unfinished line
  pub ends_empty : (held : Option (List ℕ)) (before : Standing) (kept line : List ℕ) → length kept ≡ 0 → kept ≡ kept_of line
      → Answers names session held held before before (lines_of line)
  ends_empty held before kept line empty is =
      rw (kept_nothing kept line (sym (ap (λ n. eqb n 0) empty)) is) (answered_none names session held before)

  -- the end of a script that has one
  pub ends_line : (held holds flushed : Option (List ℕ)) (before after : Standing) (kept line : List ℕ) (outcome result : Result (Unit {0}) ServeFault)
      → 0 < length kept
      → Replies held holds before after (answer_to names before kept) (after_line names session before kept) outcome
      → Keeps holds flushed → MatchResult outcome (λ _. (result ≡ outcome) ⊎ (result ≡ Err Write)) (λ _. result ≡ outcome)
      → has_newline line ≡ false → kept ≡ kept_of line
      → AnswersOrFails names session held flushed before after (lines_of line) result
  ends_line held holds flushed before after kept line outcome result some reply k which none is =
      let one : lines_of line ≡ line ∷ [] = last_line line none (kept_something kept line (some_byte kept some) is) in
      let asked : AnswersOrStops names session held holds before after (line ∷ []) outcome =
      replied_one names session held holds before after line outcome
      (subst (λ text. Replies held holds before after text (after_line names session before line) outcome) (ap (answer_to names before) is ∙ answer_to-kept names before line)
      (subst (λ next. Replies held holds before after (answer_to names before kept) next outcome) (ap (after_line names session before) is ∙ after_line-kept names session before line) reply)) in
      subst (λ ls. AnswersOrFails names session held flushed before after ls result) (sym one)
      (settled names session held holds flushed before after (line ∷ []) outcome result asked k which)
