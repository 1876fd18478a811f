-- What answers to lines one after another are.
use Rattle.std.proofs.Common.{◌≡◌, ℕ, ◌<◌, List, [], ◌∷◌, ◌++◌, Option, Result, Ok, Err, length, sym, refl, ap, ◌∙◌, subst, append_assoc, append-nil, inl, inr, ◌⊎◌, MatchResult}
use Rattle.std.proofs.KnownBytes.{Appends-trans, Appends-nil, Appends-kept}
use Rattle.std.specs.Io.KnownBytes.{Appends, Keeps}
use Rattle.mls_scripts.specs.Lines.{open_part, closed_lines}
use Rattle.mls_lines.specs.Names.{Names}
use Rattle.mls_scripts.specs.Script.{Standing, answer_to, after_line, answers, after_lines}
use Rattle.mls_scripts.specs.Serve.{Answers, AnswersBefore, AnswersUnlessRefused, BreaksOff, Stops, Fails, AnswersOrStops, AnswersOrFails, Replies}
use Rattle.mls_scripts.specs.declared.serving.ServeFault.{ServeFault}
use Rattle.mls_scripts.specs.declared.serving.ServeFault.TheVariants.{Read, Write, Memory, TooLong}
use Rattle.mls_scripts.proofs.LineLemmas.{closed_lines-append}

joined : (a b c d : List ℕ) → a ++ ((b ++ c) ++ d) ≡ ((a ++ b) ++ c) ++ d
joined a b c d = sym (append_assoc a (b ++ c) d) ∙ ap (λ t. t ++ d) (sym (append_assoc a b c))

module _ (names : Names) (session : ℕ) where
  pub after_lines-append : (s : Standing) (front back : List (List ℕ)) → after_lines names session s (front ++ back) ≡ after_lines names session (after_lines names session s front) back
  unfolding after_lines
  after_lines-append s [] back = refl
  after_lines-append s (line ∷ lines) back = after_lines-append (after_line names session s line) lines back

  pub answers-append : (s : Standing) (front back : List (List ℕ)) → answers names session s (front ++ back) ≡ answers names session s front ++ answers names session (after_lines names session s front) back
  unfolding after_lines answers
  answers-append s [] back = refl
  answers-append s (line ∷ lines) back =
      ap (λ text. answer_to names s line ++ text) (answers-append (after_line names session s line) lines back)
      ∙ sym (append_assoc (answer_to names s line) _ _)

  pub answers-one : (s : Standing) (line : List ℕ) → answers names session s (line ∷ []) ≡ answer_to names s line
  unfolding answers
  answers-one s line = append-nil _

  pub after_lines-one : (s : Standing) (line : List ℕ) → after_lines names session s (line ∷ []) ≡ after_line names session s line
  unfolding after_lines
  after_lines-one s line = refl

  -- lines answered after others were
  pub Answers-trans : (a b c : Option (List ℕ)) (i j k : Standing) (front back : List (List ℕ))
      → Answers names session a b i j front → Answers names session b c j k back → Answers names session a c i k (front ++ back)
  Answers-trans a b c i j k front back first second = record {
    written =
        let from_j : Appends b c (answers names session (after_lines names session i front) back) = subst (λ m. Appends b c (answers names session m back)) first.stands second.written in
        subst (λ text. Appends a c text) (sym (answers-append i front back)) (Appends-trans a b c _ _ first.written from_j);
    stands = second.stands ∙ ap (λ m. after_lines names session m back) first.stands ∙ sym (after_lines-append i front back);
  }

  -- nothing was answered
  pub answered_none : (held : Option (List ℕ)) (before : Standing) → Answers names session held held before before []
  unfolding answers after_lines
  answered_none held before = record { written = Appends-nil held; stands = refl }

  stopped_before : (held : Option (List ℕ)) (before : Standing) (line : List ℕ) → AnswersBefore names session held held before before (line ∷ [])
  stopped_before held before line = record { front = []; line = line; rest = []; whole = refl; answered = answered_none held before }

  -- one line was answered in full
  answered_one : (held holds : Option (List ℕ)) (before after : Standing) (line : List ℕ) → Appends held holds (answer_to names before line) → after ≡ after_line names session before line
      → Answers names session held holds before after (line ∷ [])
  answered_one held holds before after line written stands = record {
    written = subst (Appends held holds) (sym (answers-one before line)) written;
    stands = stands ∙ sym (after_lines-one before line);
  }

  -- the writer failed within the answer to the one line
  broken_off_one : (held holds : Option (List ℕ)) (before after : Standing) (line text lost : List ℕ) → answer_to names before line ≡ text ++ lost → 0 < length lost → Appends held holds text
      → after ≡ after_line names session before line → BreaksOff names session held holds before after (line ∷ [])
  unfolding answers after_lines
  broken_off_one held holds before after line text lost part short written stands = record {
    front = [];
    line = line;
    rest = [];
    text = text;
    lost = lost;
    whole = refl;
    asked = stands;
    part = append-nil _ ∙ part;
    short = short;
    written = written;
  }

  -- what a reply to one line leaves
  pub replied_one : {X : Type 0} (held holds : Option (List ℕ)) (before after : Standing) (line : List ℕ) (result : Result X ServeFault)
      → Replies held holds before after (answer_to names before line) (after_line names session before line) result
      → AnswersOrStops names session held holds before after (line ∷ []) result
  replied_one held holds before after line (Ok x) r = answered_one held holds before after line r.0 r.1
  replied_one held holds before after line (Err Read) r = r
  replied_one held holds before after line (Err Write) r = broken_off_one held holds before after line r.0 r.1 r.2 r.3 r.4 r.5
  replied_one held holds before after line (Err Memory) r = rw (r.0, r.1) (inr (stopped_before held before line))
  replied_one held holds before after line (Err TooLong) r = r

  before_more : (held holds : Option (List ℕ)) (before after : Standing) (lines more : List (List ℕ)) → AnswersBefore names session held holds before after lines → AnswersBefore names session held holds before after (lines ++ more)
  before_more held holds before after lines more s = record {
    front = s.front;
    line = s.line;
    rest = s.rest ++ more;
    whole = ap (λ ls. ls ++ more) s.whole ∙ append_assoc s.front (s.line ∷ s.rest) more;
    answered = s.answered;
  }

  unless_more : (held holds : Option (List ℕ)) (before after : Standing) (lines more : List (List ℕ)) → AnswersUnlessRefused names session held holds before after lines → AnswersUnlessRefused names session held holds before after (lines ++ more)
  unless_more held holds before after lines [] (inl s) = inl (subst (Answers names session held holds before after) (sym (append-nil lines)) s)
  unless_more held holds before after lines (line ∷ rest) (inl s) = inr (record { front = lines; line = line; rest = rest; whole = refl; answered = s })
  unless_more held holds before after lines more (inr s) = inr (before_more held holds before after lines more s)

  broken_more : (held holds : Option (List ℕ)) (before after : Standing) (lines more : List (List ℕ)) → BreaksOff names session held holds before after lines → BreaksOff names session held holds before after (lines ++ more)
  broken_more held holds before after lines more s = record {
    front = s.front;
    line = s.line;
    rest = s.rest ++ more;
    text = s.text;
    lost = s.lost;
    whole = ap (λ ls. ls ++ more) s.whole ∙ append_assoc s.front (s.line ∷ s.rest) more;
    asked = s.asked;
    part = s.part;
    short = s.short;
    written = s.written;
  }

  -- what holds of the lines holds where more follow
  pub Stops-front : (held holds : Option (List ℕ)) (before after : Standing) (lines more : List (List ℕ)) (fault : ServeFault) → Stops names session held holds before after lines fault → Stops names session held holds before after (lines ++ more) fault
  Stops-front held holds before after lines more Read s = s
  Stops-front held holds before after lines more Write s = broken_more held holds before after lines more s
  Stops-front held holds before after lines more Memory s = unless_more held holds before after lines more s
  Stops-front held holds before after lines more TooLong s = s

  before_after : (a b c : Option (List ℕ)) (i j k : Standing) (front lines : List (List ℕ)) → Answers names session a b i j front → AnswersBefore names session b c j k lines → AnswersBefore names session a c i k (front ++ lines)
  before_after a b c i j k front lines first s = record {
    front = front ++ s.front;
    line = s.line;
    rest = s.rest;
    whole = ap (λ ls. front ++ ls) s.whole ∙ sym (append_assoc front s.front (s.line ∷ s.rest));
    answered = Answers-trans a b c i j k front s.front first s.answered;
  }

  unless_after : (a b c : Option (List ℕ)) (i j k : Standing) (front lines : List (List ℕ)) → Answers names session a b i j front → AnswersUnlessRefused names session b c j k lines → AnswersUnlessRefused names session a c i k (front ++ lines)
  unless_after a b c i j k front lines first (inl s) = inl (Answers-trans a b c i j k front lines first s)
  unless_after a b c i j k front lines first (inr s) = inr (before_after a b c i j k front lines first s)

  broken_after : (a b c : Option (List ℕ)) (i j k : Standing) (front lines : List (List ℕ)) → Answers names session a b i j front → BreaksOff names session b c j k lines → BreaksOff names session a c i k (front ++ lines)
  broken_after a b c i j k front lines first s =
      let from : j ≡ after_lines names session i front = first.stands in
      let all_asked : List (List ℕ) = s.front ++ s.line ∷ [] in
      let before_it : answers names session i (front ++ s.front) ≡ answers names session i front ++ answers names session j s.front =
      answers-append i front s.front ∙ ap (λ m. answers names session i front ++ answers names session m s.front) (sym from) in
      record {
        front = front ++ s.front;
        line = s.line;
        rest = s.rest;
        text = s.text;
        lost = s.lost;
        whole = ap (λ ls. front ++ ls) s.whole ∙ sym (append_assoc front s.front (s.line ∷ s.rest));
        asked = s.asked ∙ ap (λ m. after_lines names session m all_asked) from ∙ sym (after_lines-append i front all_asked) ∙ ap (after_lines names session i) (sym (append_assoc front s.front (s.line ∷ [])));
        part = ap (answers names session i) (append_assoc front s.front (s.line ∷ [])) ∙ answers-append i front all_asked ∙ ap (λ m. answers names session i front ++ answers names session m all_asked) (sym from)
            ∙ ap (λ t. answers names session i front ++ t) s.part
            ∙ joined (answers names session i front) (answers names session j s.front) s.text s.lost
            ∙ ap (λ t. (t ++ s.text) ++ s.lost) (sym before_it);
        short = s.short;
        written = subst (λ t. Appends a c t) (sym (append_assoc (answers names session i front) (answers names session j s.front) s.text) ∙ ap (λ t. t ++ s.text) (sym before_it))
            (Appends-trans a b c _ _ first.written s.written);
      }

  -- a stop after lines that were answered
  pub Stops-after : (a b c : Option (List ℕ)) (i j k : Standing) (front lines : List (List ℕ)) (fault : ServeFault) → Answers names session a b i j front → Stops names session b c j k lines fault → Stops names session a c i k (front ++ lines) fault
  Stops-after a b c i j k front lines Read first s = s
  Stops-after a b c i j k front lines Write first s = broken_after a b c i j k front lines first s
  Stops-after a b c i j k front lines Memory first s = unless_after a b c i j k front lines first s
  Stops-after a b c i j k front lines TooLong first s = s

  pub Fails-after : (a b c : Option (List ℕ)) (i j k : Standing) (front lines : List (List ℕ)) (fault : ServeFault) → Answers names session a b i j front → Fails names session b c j k lines fault → Fails names session a c i k (front ++ lines) fault
  Fails-after a b c i j k front lines Read first s = s
  Fails-after a b c i j k front lines Write first (inl s) = inl (broken_after a b c i j k front lines first s)
  Fails-after a b c i j k front lines Write first (inr s) = inr (Answers-trans a b c i j k front lines first s)
  Fails-after a b c i j k front lines Memory first s = unless_after a b c i j k front lines first s
  Fails-after a b c i j k front lines TooLong first s = s

  -- what was written stays where the writer is flushed
  pub Answers-kept : (a b c : Option (List ℕ)) (i j : Standing) (lines : List (List ℕ)) → Answers names session a b i j lines → Keeps b c → Answers names session a c i j lines
  Answers-kept a b c i j lines s k = record { written = Appends-kept a b c _ s.written k; stands = s.stands }

  before_kept : (a b c : Option (List ℕ)) (i j : Standing) (lines : List (List ℕ)) → AnswersBefore names session a b i j lines → Keeps b c → AnswersBefore names session a c i j lines
  before_kept a b c i j lines s k = record { front = s.front; line = s.line; rest = s.rest; whole = s.whole; answered = Answers-kept a b c i j s.front s.answered k }

  unless_kept : (a b c : Option (List ℕ)) (i j : Standing) (lines : List (List ℕ)) → AnswersUnlessRefused names session a b i j lines → Keeps b c → AnswersUnlessRefused names session a c i j lines
  unless_kept a b c i j lines (inl s) k = inl (Answers-kept a b c i j lines s k)
  unless_kept a b c i j lines (inr s) k = inr (before_kept a b c i j lines s k)

  broken_kept : (a b c : Option (List ℕ)) (i j : Standing) (lines : List (List ℕ)) → BreaksOff names session a b i j lines → Keeps b c → BreaksOff names session a c i j lines
  broken_kept a b c i j lines s k = record {
    front = s.front;
    line = s.line;
    rest = s.rest;
    text = s.text;
    lost = s.lost;
    whole = s.whole;
    asked = s.asked;
    part = s.part;
    short = s.short;
    written = Appends-kept a b c _ s.written k;
  }

  -- what stands at a fault, once the writer was flushed
  pub Stops-flushed : (a b c : Option (List ℕ)) (i j : Standing) (lines : List (List ℕ)) (fault : ServeFault) → Stops names session a b i j lines fault → Keeps b c → Fails names session a c i j lines fault
  Stops-flushed a b c i j lines Read s k = s
  Stops-flushed a b c i j lines Write s k = inl (broken_kept a b c i j lines s k)
  Stops-flushed a b c i j lines Memory s k = unless_kept a b c i j lines s k
  Stops-flushed a b c i j lines TooLong s k = s

  -- where all lines are answered, the flush may fail
  pub flush_failed : (a b c : Option (List ℕ)) (i j : Standing) (lines : List (List ℕ)) → Answers names session a b i j lines → Keeps b c → Fails names session a c i j lines Write
  flush_failed a b c i j lines s k = inr (Answers-kept a b c i j lines s k)

  pub settled : (a b c : Option (List ℕ)) (i j : Standing) (lines : List (List ℕ)) (outcome result : Result (Unit {0}) ServeFault)
      → AnswersOrStops names session a b i j lines outcome → Keeps b c → MatchResult outcome (λ _. (result ≡ outcome) ⊎ (result ≡ Err Write)) (λ _. result ≡ outcome)
      → AnswersOrFails names session a c i j lines result
  settled a b c i j lines (Ok x) result s k (inl same) = rw same (Answers-kept a b c i j lines s k)
  settled a b c i j lines (Ok x) result s k (inr failed) = rw failed (flush_failed a b c i j lines s k)
  settled a b c i j lines (Err fault) result s k same = rw same (Stops-flushed a b c i j lines fault s k)

  -- a piece more of a script of which a front was answered
  pub answered_more : (a b c : Option (List ℕ)) (i j k : Standing) (front more : List ℕ) → Answers names session a b i j (closed_lines front) → Answers names session b c j k (closed_lines (open_part front ++ more))
      → Answers names session a c i k (closed_lines (front ++ more))
  answered_more a b c i j k front more first second =
      subst (Answers names session a c i k) (sym (closed_lines-append front more)) (Answers-trans a b c i j k _ _ first second)

  pub failed_more : (a b c : Option (List ℕ)) (i j k : Standing) (front more : List ℕ) (fault : ServeFault) → Answers names session a b i j (closed_lines front) → Fails names session b c j k (closed_lines (open_part front ++ more)) fault
      → Fails names session a c i k (closed_lines (front ++ more)) fault
  failed_more a b c i j k front more fault first second =
      subst (λ ls. Fails names session a c i k ls fault) (sym (closed_lines-append front more)) (Fails-after a b c i j k _ _ fault first second)
