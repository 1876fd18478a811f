-- How far a client's input is answered.
use Rattle.std.proofs.Common.{◌≡◌, ℕ, ◌+◌, ◌-◌, ◌<◌, ◌≤◌, false, inl, List, [], ◌++◌, length, Option, Some, None, Result, Ok, Err, refl, sym, ap, ◌∙◌, append-nil, subst, arith}
use Rattle.std.specs.Prelude.{MatchResult}
use Rattle.std.specs.Io.KnownBytes.{Consumes, Keeps, IsAtEnd}
use Rattle.std.proofs.KnownBytes.{Consumes-trans, Consumes-nil, Consumes-kept}
use Rattle.mls_requests.specs.declared.entry.Entry.{Entry}
use Rattle.mls_monitor.specs.Journal.{IsLegal}
use Rattle.mls_lines.specs.Names.{Names}
use Rattle.mls_scripts.specs.Lines.{closed_lines, open_part, has_newline}
use Rattle.mls_scripts.specs.Script.{Standing}
use Rattle.mls_scripts.proofs.Laws.{closed_lines-append, open-append, open_part_is_open}
use Rattle.mls_durable.specs.Sessions.{kept_of}
use Rattle.mls_durable.specs.declared.options.Protocol.{Protocol}
use Rattle.mls_durable.proofs.KeptLines.{kept_none, kept_some, length-kept_of}
use Rattle.mls_journal.specs.declared.journal.TheConstants.{JOURNAL_LIMIT}
use Rattle.mls_durable.specs.History.{Event, Known, seen, ahead}
use Rattle.mls_durable.specs.Moments.{IsSettled}
use Rattle.mls_durable.specs.Batches.{Pending, SoFar, Stops, Steps, limit_of}
use Rattle.mls_durable.specs.Attending.{AnswersAll, Attends}
use Rattle.mls_durable.specs.declared.attend_fault.AttendFault.{AttendFault}
use Rattle.mls_durable.specs.declared.attend_fault.AttendFault.TheVariants.{Read, Unfinished, Write, File, Memory, TooLong}
use Rattle.mls_durable.proofs.LineFacts.{after_none}
use Rattle.mls_durable.proofs.Moving.{stands, all_served, all_in_front, serves_none, so_far_none}

limit_small : (segment : Option ℕ) → limit_of segment ≤ JOURNAL_LIMIT
limit_small None = omega arith
limit_small (Some n) = omega arith

pub keeps_itself : (o : Option (List ℕ)) → Keeps o o
keeps_itself None = tt
keeps_itself (Some xs) = refl

module _ (names : Names) (protocol : Protocol) (first : Standing) (begun : Pending) where
  -- a client begins where nothing is asked yet
  abbrev pub Begun : List Event → Type 0
  Begun before = SoFar names protocol first before [] begun before

  -- what was read: its complete lines are answered, and what is needed of the open one is kept
  pub record Taken (given left : Option (List ℕ)) (p : Pending) (kept : List ℕ) (old new : Option (List Event)) : Type 0 where
    pub taken : List ℕ
    pub consumed : Consumes given left taken
    pub kept_is : kept ≡ kept_of (open_part taken)
    pub so_far : Known old new (λ before h. Begun before → SoFar names protocol first before (closed_lines taken) p h)

  pub taken_none : (given : Option (List ℕ)) (kept : List ℕ) (old : Option (List Event)) → kept ≡ [] → Taken given given begun kept old old
  taken_none given kept old none = record { taken = []; consumed = Consumes-nil given; kept_is = none; so_far = λ before is. (before, is, λ b. b) }

  pub taken_short : (given left : Option (List ℕ)) (p : Pending) (kept : List ℕ) (old new : Option (List Event)) → Taken given left p kept old new → length kept ≤ 20014
  taken_short given left p kept old new t = length-kept_of kept (open_part t.taken) t.kept_is

  -- what one more piece leaves, whatever stands before it of a line that isn't complete
  abbrev pub Fed : {X : Type 0} → Pending → Pending → List ℕ → List ℕ → List ℕ → Option (List Event) → Option (List Event) → Result X AttendFault → Type 0
  Fed old new kept keeps piece a b result =
      (line : List ℕ) → has_newline line ≡ false → kept ≡ kept_of line → Known a b (λ h k. Steps names protocol old new (closed_lines (line ++ piece)) h k result)

  pub taken_more : (x : Unit {0}) (given left next : Option (List ℕ)) (p new : Pending) (kept keeps bytes : List ℕ) (old mid last : Option (List Event)) → Taken given left p kept old mid → Consumes left next bytes
      → Fed {X = Unit {0}} p new kept keeps bytes mid last (Ok x) → ((line : List ℕ) → has_newline line ≡ false → kept ≡ kept_of line → keeps ≡ kept_of (open_part (line ++ bytes)))
      → Taken given next new keeps old last
  taken_more x given left next p new kept keeps bytes old mid last t c fed k = record {
    taken = t.taken ++ bytes;
    consumed = Consumes-trans given left next t.taken bytes t.consumed c;
    kept_is = k (open_part t.taken) (open_part_is_open t.taken) t.kept_is ∙ ap kept_of (sym (open-append t.taken bytes));
    so_far = λ before is.
        let one = t.so_far before is in
        let two = fed (open_part t.taken) (open_part_is_open t.taken) t.kept_is one.0 one.1 in (
          two.0,
          two.1,
          λ b. subst (λ (ls : List (List ℕ)). SoFar names protocol first before ls new two.0) (sym (closed_lines-append t.taken bytes)) (two.2 first before (closed_lines t.taken) (one.2 b)),
        );
  }

  of_fault : (X : Type 0) (given next : Option (List ℕ)) (before after : List Event) (entries : List Entry) (fault : AttendFault) (taken : List ℕ) → Consumes given next taken
      → Stops names protocol first before (closed_lines taken) entries after fault → Attends {X = X} names protocol first given next entries before after (Err fault)
  of_fault X given next before after entries Read taken c stops = absurd stops
  of_fault X given next before after entries Unfinished taken c stops = absurd stops
  of_fault X given next before after entries Write taken c stops = (taken, c, stops)
  of_fault X given next before after entries File taken c stops = (taken, c, stops)
  of_fault X given next before after entries Memory taken c stops = (taken, c, stops)
  of_fault X given next before after entries TooLong taken c stops = (taken, c, stops)

  -- a stop amid the lines of a piece
  pub attends_stop : (X : Type 0) (given left next : Option (List ℕ)) (p new : Pending) (kept keeps bytes : List ℕ) (old mid last : Option (List Event)) (entries : List Entry) (fault : AttendFault) → Taken given left p kept old mid
      → Consumes left next bytes → Fed {X = Unit {0}} p new kept keeps bytes mid last (Err fault) → new.now.entries ≡ entries → Known old last (λ before after. Begun before → Attends {X = X} names protocol first given next entries before after (Err fault))
  attends_stop X given left next p new kept keeps bytes old mid last entries fault t c fed same before is =
      let one = t.so_far before is in
      let two = fed (open_part t.taken) (open_part_is_open t.taken) t.kept_is one.0 one.1 in (
        two.0,
        two.1,
        λ b.
            of_fault X given next before two.0 entries fault (t.taken ++ bytes) (Consumes-trans given left next t.taken bytes t.consumed c)
            (subst (λ (es : List Entry). Stops names protocol first before (closed_lines (t.taken ++ bytes)) es two.0 fault) same
            (subst (λ (ls : List (List ℕ)). Stops names protocol first before ls new.now.entries two.0 fault) (sym (closed_lines-append t.taken bytes)) (two.2 first before (closed_lines t.taken) (one.2 b)))),
      )

  -- all lines that are complete in what was read are answered
  answered : (taken : List ℕ) (p : Pending) (entries : List Entry) (before h : List Event) → SoFar names protocol first before (closed_lines taken) p h → p.text ≡ [] → p.out ≡ [] → p.now.entries ≡ entries
      → AnswersAll names protocol first taken entries before h
  answered taken p entries before h so_far text out same = (
    all_served names protocol first before (closed_lines taken) p h so_far text out,
    sym same ∙ ap (λ (s : Standing). s.entries) (stands names protocol first before (closed_lines taken) p h so_far),
  )

  -- the reader failed
  pub attends_read : (X : Type 0) (given left next : Option (List ℕ)) (p : Pending) (kept : List ℕ) (old mid : Option (List Event)) (entries : List Entry) → Taken given left p kept old mid → Keeps left next
      → p.text ≡ [] → p.out ≡ [] → p.now.entries ≡ entries → Known old mid (λ before after. Begun before → Attends {X = X} names protocol first given next entries before after (Err Read))
  attends_read X given left next p kept old mid entries t k text out same before is =
      let one = t.so_far before is in (
        one.0,
        one.1,
        λ b. (t.taken, Consumes-kept given left next t.taken t.consumed k, answered t.taken p entries before one.0 (one.2 b) text out same),
      )

  all_of : (given left next : Option (List ℕ)) (taken : List ℕ) → Consumes given left taken → Consumes left next [] → Consumes given next taken
  all_of given left next taken c d = subst (Consumes given next) (append-nil taken) (Consumes-trans given left next taken [] c d)

  -- the input ended
  pub attends_end : {X : Type 0} (given left next : Option (List ℕ)) (p : Pending) (kept : List ℕ) (old mid : Option (List Event)) (entries : List Entry) (result : Result X AttendFault) → Taken given left p kept old mid
      → Consumes left next [] → IsAtEnd next → MatchResult result (λ _. kept ≡ []) (λ fault. (fault ≡ Unfinished) × (0 < length kept))
      → p.text ≡ [] → p.out ≡ [] → p.now.entries ≡ entries
      → Known old mid (λ before after. Begun before → Attends names protocol first given next entries before after result)
  attends_end given left next p kept old mid entries (Ok x) t c end none text out same before is =
      let one = t.so_far before is in (
        one.0,
        one.1,
        λ b. (
          t.taken,
          all_of given left next t.taken t.consumed c,
          end,
          kept_none kept (open_part t.taken) none t.kept_is,
          answered t.taken p entries before one.0 (one.2 b) text out same,
        ),
      )
  attends_end {X = X} given left next p kept old mid entries (Err fault) t c end some text out same before is =
      let one = t.so_far before is in (
        one.0,
        one.1,
        λ b.
            subst (λ (f : AttendFault). Attends {X = X} names protocol first given next entries before one.0 (Err f)) (sym some.0) (
              t.taken,
              all_of given left next t.taken t.consumed c,
              end,
              kept_some kept (open_part t.taken) some.1 t.kept_is,
              answered t.taken p entries before one.0 (one.2 b) text out same,
            ),
      )

module _ (names : Names) (protocol : Protocol) (first : Standing) where
  -- nothing was read
  pub attends_nothing : (X : Type 0) (given : Option (List ℕ)) (entries : List Entry) (before : List Event) → entries ≡ first.entries → IsLegal first.start first.entries → IsSettled first.entries before
      → Attends {X = X} names protocol first given given entries before before (Err Memory)
  attends_nothing X given entries before same legal settled = (
    [],
    Consumes-nil given,
    (
      all_in_front names protocol first before [] before (serves_none names protocol first before legal settled),
      inl (same ∙ ap (λ (s : Standing). s.entries) (sym (after_none names protocol first))),
    ),
  )

  -- where a client begins, by what is the same
  pub begins : (start : Standing) (before : List Event) (p : Pending) (len : ℕ) → first ≡ start → IsLegal start.start start.entries → IsSettled start.entries before → p.now ≡ first → p.text ≡ [] → p.out ≡ []
      → ahead before + len ≡ length (seen before) → p.room ≡ limit_of protocol.segment - len → SoFar names protocol first before [] p before
  begins start before p len same legal settled now text out long room =
      let legal_first : IsLegal first.start first.entries = subst (λ (s : Standing). IsLegal s.start s.entries) (sym same) legal in
      let settled_first : IsSettled first.entries before = subst (λ (s : Standing). IsSettled s.entries before) (sym same) settled in
      so_far_none names protocol first before p legal_first settled_first now text out
      (omega (arith, room, long, ap length settled_first.file, settled_first.fits, limit_small protocol.segment))
      (λ none. omega (arith, room, long, ap length settled_first.file, settled_first.fits, ap limit_of none))

  pub attends_from : {X : Type 0} (start : Standing) (given left : Option (List ℕ)) (entries : List Entry) (before after : List Event) (result : Result X AttendFault) → first ≡ start
      → Attends names protocol first given left entries before after result → Attends names protocol start given left entries before after result
  attends_from start given left entries before after result same attends = subst (λ (s : Standing). Attends names protocol s given left entries before after result) same attends
