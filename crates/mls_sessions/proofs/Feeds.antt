-- Feeds that sessions ask to their end, and what of it stands in the journal.
use Rattle.std.proofs.Common.{◌≡◌, ℕ, zero, suc, ◌+◌, ◌<◌, List, [], ◌∷◌, ◌++◌, length, map, take, refl, sym, ap, ◌∙◌, subst, inl, inr, arith, append-nil, append_assoc, length-append, Option, Some, drop}
use Rattle.std.proofs.lemmas.List.{append_cancel_left, map-append, nil_from_length}
use lib.Seq.{drop-append_seam, take-length}
use mathlib.Core.List.{IsPrefix, cons≢nil}
use Rattle.mls_state.specs.State.{State}
use Rattle.mls_requests.specs.declared.ask.Ask.{Ask}
use Rattle.mls_requests.specs.declared.entry.Entry.{Entry}
use Rattle.mls_turns.specs.Journals.{Journal}
use Rattle.mls_monitor.specs.Entries.{of_session}
use Rattle.mls_sessions.specs.Rule.{begun, base, news, member, opened}
use Rattle.mls_sessions.specs.Sessions.{Office, Session, session_at, IsOf, HasAll, newcomers, history, own, member_of, number_of}
use Rattle.mls_sessions.specs.declared.gate_table.View.TheVariants.{Sessions}
use Rattle.mls_sessions.specs.Runs.{Returned}
use Rattle.mls_sessions.specs.Feeds.{Learns, Tells, Halts, TakesTurn, BreaksOff, FeedEnds, Serves, Row, NoWorse, IsWorst, AllNoWorse, AllServe, AllServed, AllTold}
use Rattle.mls_monitor.specs.Feeds.{Exchange, Turn, asks_of, answers_of, in_turns, AreTold, GaveAhead, Heard, Halted, Gave, Talks, AllFed}
use Rattle.mls_sessions.specs.declared.asked.Asked.{Asked}
use Rattle.mls_sessions.specs.declared.asked.Asked.TheVariants.{ToTheEnd, UntilRefused, NotAtAll}
use Rattle.mls_monitor.specs.declared.feed.Answer.{Answer as Told}
use Rattle.mls_sessions.proofs.OwnEntries.{own-append}
use Rattle.mls_sessions.proofs.Exchanges.{told_then, told_longer}
use Rattle.mls_sessions.proofs.Learnt.{history_is}

abbrev goes_on : Asked → Type 0
goes_on ToTheEnd = Unit {0}
goes_on UntilRefused = ⊥
goes_on NotAtAll = Unit {0}

no_worse : (a b c : Asked) → NoWorse a b → NoWorse b c → NoWorse a c
no_worse a b UntilRefused ab bc = tt
no_worse a UntilRefused NotAtAll ab bc = absurd (bc refl)
no_worse a NotAtAll NotAtAll ab bc = ab
no_worse a ToTheEnd NotAtAll ab bc = λ is. subst goes_on (sym ab ∙ is) tt
no_worse a b ToTheEnd ab bc = subst (NoWorse a) bc ab

abbrev head_or : {A : Type 0} → A → List A → A
head_or d [] = d
head_or d (x ∷ xs) = x

abbrev tail_of : {A : Type 0} → List A → List A
tail_of [] = []
tail_of (x ∷ xs) = xs

-- the first sessions of an office have their places for numbers, and have seen its base
abbrev Numbered : Office → ℕ → List Session → Type 0
Numbered o k [] = Unit {0}
Numbered o k (s ∷ ss) = (number_of s.view ≡ k) × (history s.view ≡ base o.charter) × Numbered o (k + 1) ss

numbered_snoc : (o : Office) (k : ℕ) (ss : List Session) (s : Session) → Numbered o k ss → number_of s.view ≡ k + length ss → history s.view ≡ base o.charter → Numbered o k (ss ++ s ∷ [])
numbered_snoc o k [] s all is seen = (is ∙ (let e : k + 0 ≡ k = omega arith in e), seen, tt)
numbered_snoc o k (x ∷ ss) s all is seen = (all.0, all.1, numbered_snoc o (k + 1) ss s all.2 (is ∙ (let e : k + length (x ∷ ss) ≡ (k + 1) + length ss = omega arith in e)) seen)

newcomers_numbered : (o : Office) (n : ℕ) → Numbered o 0 (newcomers o n) × (length (newcomers o n) ≡ n)
newcomers_numbered o zero = (tt, refl)
newcomers_numbered o (suc n) =
    let t = newcomers_numbered o n in
    let s : Session = session_at o.table (Sessions o.charter (member n (opened o.charter) ∷ [])) in
    let long = length-append (newcomers o n) (s ∷ []) in
    (numbered_snoc o 0 (newcomers o n) s t.0 (let e : n ≡ 0 + length (newcomers o n) = omega (arith, t.1) in e) (append-nil (base o.charter)), (let e : length (newcomers o n ++ s ∷ []) ≡ suc n = omega (arith, long, t.1) in e))

-- turns, one after the other
in_turns-append : (xs ys : List Turn) → in_turns (xs ++ ys) ≡ in_turns xs ++ in_turns ys
in_turns-append [] ys = refl
in_turns-append (x ∷ xs) ys = ap (λ zs. x.0 ∷ (x.1 ++ zs)) (in_turns-append xs ys) ∙ ap (λ zs. x.0 ∷ zs) (sym (append_assoc x.1 (in_turns xs) (in_turns ys)))

module _ {F : Type 0} (gives : F → Option Ask → F → Type 0) (gives_ahead : F → Ask → F → Type 0) (hears : F → Told → F → Type 0) where
  talks_more : (f g : F) (turns : List Turn) (turn : Turn) (asked full heard : F) → Talks gives gives_ahead hears f turns g → gives g (Some turn.0.0) asked → GaveAhead gives_ahead asked (asks_of turn.1) full
      → Heard hears full (answers_of (turn.0 ∷ turn.1)) heard → Talks gives gives_ahead hears f (turns ++ turn ∷ []) heard
  talks_more f g [] turn asked full heard so given on told = (asked, full, heard, subst (λ z. gives z (Some turn.0.0) asked) (sym so) given, on, told, refl)
  talks_more f g (x ∷ turns) turn asked full heard so given on told = (so.0, so.1, so.2, so.3, so.4, so.5, talks_more so.2 g turns turn asked full heard so.6 given on told)

  -- a session asked for what the feed gave, and told it the answers, so far
  pub record Asking (o : Office) (s : Session) (f : F) (t : Session) (g : F) : Type 0 where
    pub turns : List Turn
    pub since : List Entry
    pub grew : history t.view ≡ history s.view ++ since
    pub told : AreTold (begun o.charter) (number_of s.view) (history s.view) since (in_turns turns)
    pub talks : Talks gives gives_ahead hears f turns g

  pub asking_none : (o : Office) (s : Session) (f : F) → Asking o s f s f
  asking_none o s f = record { turns = []; since = []; grew = sym (append-nil (history s.view)); told = refl; talks = refl }

  -- what a turn more adds to the history, and what it tells
  grew_more : (o : Office) (s t u : Session) (f g : F) (xs : List Exchange) (more : List Entry) → (so : Asking o s f t g) → number_of t.view ≡ number_of s.view → history u.view ≡ history t.view ++ more
      → AreTold (begun o.charter) (number_of t.view) (history t.view) more xs
      → (history u.view ≡ history s.view ++ (so.since ++ more)) × AreTold (begun o.charter) (number_of s.view) (history s.view) (so.since ++ more) (in_turns so.turns ++ xs)
  grew_more o s t u f g xs more so same grew told =
      let here : AreTold (begun o.charter) (number_of s.view) (history s.view ++ so.since) more xs =
      subst (λ es. AreTold (begun o.charter) (number_of s.view) es more xs) so.grew (subst (λ (k : ℕ). AreTold (begun o.charter) k (history t.view) more xs) same told) in (
        grew ∙ ap (λ es. es ++ more) so.grew ∙ append_assoc (history s.view) so.since more,
        told_then (begun o.charter) (number_of s.view) (history s.view) so.since more (in_turns so.turns) xs so.told here,
      )

  -- a turn more, of which these are the exchanges
  turn_more : (o : Office) (s t u : Session) (f g h i : F) (asks : List Ask) (answers : List Told) (xs : List Exchange) (more : List Entry) → Asking o s f t g → number_of t.view ≡ number_of s.view
      → Gave gives gives_ahead g asks h → asks ≡ asks_of xs → answers ≡ answers_of xs → Heard hears h answers i → history u.view ≡ history t.view ++ more
      → AreTold (begun o.charter) (number_of t.view) (history t.view) more xs → Asking o s f u i
  turn_more o s t u f g h i asks answers [] more so same gave are answered heard grew told = absurd (cons≢nil (sym gave.are ∙ are))
  turn_more o s t u f g h i asks answers (x ∷ xs) more so same gave are answered heard grew told =
      let turn : Turn = (x, xs) in
      let first : gave.first ≡ x.0 = ap (head_or x.0) (sym gave.are ∙ are) in
      let others : gave.more ≡ asks_of xs = ap tail_of (sym gave.are ∙ are) in
      let next = grew_more o s t u f g (x ∷ xs) more so same grew told in
      let all : in_turns (so.turns ++ turn ∷ []) ≡ in_turns so.turns ++ (x ∷ xs) = in_turns-append so.turns (turn ∷ []) ∙ ap (λ ys. in_turns so.turns ++ (x ∷ ys)) (append-nil xs) in
      record {
        turns = so.turns ++ turn ∷ [];
        since = so.since ++ more;
        grew = next.0;
        told = subst (AreTold (begun o.charter) (number_of s.view) (history s.view) (so.since ++ more)) (sym all) next.1;
        talks = talks_more f g so.turns turn gave.asked h i so.talks (subst (λ a. gives g (Some a) gave.asked) first gave.gives_it) (subst (λ qs. GaveAhead gives_ahead gave.asked qs h) others gave.gave_more)
            (subst (λ ts. Heard hears h ts i) answered heard);
      }

  pub asking_on : (o : Office) (s t u : Session) (f g h : F) → Asking o s f t g → number_of t.view ≡ number_of s.view → TakesTurn gives gives_ahead hears o t g u h → Asking o s f u h
  asking_on o s t u f g h so same took =
      let learns = took.tells.learns in
      turn_more o s t u f g took.full h took.asks took.tells.answers learns.exchanges learns.since so same took.gave learns.asked learns.answered took.tells.heard learns.grew learns.told

  -- one turn
  pub takes_turn : (o : Office) (s t : Session) (f g h : F) (asks : List Ask) → Gave gives gives_ahead f asks g → Tells hears o s g asks t h → TakesTurn gives gives_ahead hears o s f t h
  takes_turn o s t f g h asks gave tells = record { asks = asks; full = g; gave = gave; tells = tells }

-- what a feed is told in it: the answer to one ask, those to all, by the lists that hold asks and answers
module _ {F : Type 0} (hears : F → Told → F → Type 0) where
  pub tells_one : (o : Office) (s t : Session) (f g : F) (a : Ask) (answer : Told) → Learns o.charter s.view (a ∷ []) (answer ∷ []) t.view → hears f answer g → Tells hears o s f (a ∷ []) t g
  tells_one o s t f g a answer learns heard = record { answers = answer ∷ []; learns = learns; heard = (g, heard, refl) }

  pub tells_all : (o : Office) (s t : Session) (f g : F) (asks : List Ask) (answers ts : List Told) (n : ℕ) → Learns o.charter s.view (take n asks) answers t.view → n ≡ length asks → ts ≡ answers → Heard hears f ts g
      → Tells hears o s f asks t g
  tells_all o s t f g asks answers ts n learns all are heard = record {
    answers = answers;
    learns = subst (λ xs. Learns o.charter s.view xs answers t.view) (ap (λ m. take m asks) all ∙ take-length asks) learns;
    heard = subst (λ ys. Heard hears f ys g) are heard;
  }

-- the same where an allocation failed
module _ {F : Type 0} (hears : F → Told → F → Type 0) (stops : F → F → Type 0) where
  pub halts_one : (o : Office) (s t : Session) (f g : F) (a : Ask) → t ≡ s → stops f g → Halts hears stops o s f (a ∷ []) t g
  halts_one o s t f g a same stopped = record {
    answered = 0;
    answers = [];
    learns = subst (λ (u : Session). Learns o.charter s.view [] [] u.view) (sym same) (record { exchanges = []; since = []; asked = refl; answered = refl; grew = sym (append-nil (history s.view)); told = refl });
    not_all = omega arith;
    halted = record { heard = f; told = refl; stopped = stopped };
  }

  pub halts_all : (o : Office) (s t : Session) (f g : F) (asks : List Ask) (answers ts : List Told) (n : ℕ) → Learns o.charter s.view (take n asks) answers t.view → n < length asks → ts ≡ answers → Halted hears stops f ts g
      → Halts hears stops o s f asks t g
  halts_all o s t f g asks answers ts n learns some are halted =
      record { answered = n; answers = answers; learns = learns; not_all = some; halted = subst (λ ys. Halted hears stops f ys g) are halted }

-- what a session asked stands in a journal that begins with its history and has just its own part
own_told : (o : Office) (j : Journal) (k : ℕ) (s t : Session) (since : List Entry) (xs : List Exchange) → number_of s.view ≡ k → history s.view ≡ base o.charter → IsOf o t → number_of t.view ≡ number_of s.view
    → IsPrefix (history t.view) j.entries → of_session (number_of t.view) (news o.charter j) ≡ own t.view → history t.view ≡ history s.view ++ since
    → AreTold (begun o.charter) (number_of s.view) (history s.view) since xs → AreTold (begun o.charter) k (base o.charter) (news o.charter j) xs
own_told o j k s t since xs number_is seen_base is same begins mine grew told =
    let more : List Entry = begins.0 in
    let seen : history t.view ≡ base o.charter ++ since = grew ∙ ap (λ es. es ++ since) seen_base in
    let knows : (member_of t.view).later ≡ since = append_cancel_left (base o.charter) _ _ (sym (history_is o t is) ∙ seen) in
    let goes_on : j.entries ≡ base o.charter ++ (since ++ more) = sym begins.1 ∙ ap (λ es. es ++ more) seen ∙ append_assoc (base o.charter) since more in
    let new : news o.charter j ≡ since ++ more = ap (drop (length (base o.charter))) goes_on ∙ drop-append_seam (base o.charter) (since ++ more) in
    let number : number_of t.view ≡ k = same ∙ number_is in
    let made : of_session k (since ++ more) ≡ of_session k since =
    ap (of_session k) (sym new) ∙ ap (λ n. of_session n (news o.charter j)) (sym number) ∙ mine ∙ ap (λ n. of_session n (member_of t.view).later) number ∙ ap (of_session k) knows in
    let none : of_session k more ≡ [] = append_cancel_left (of_session k since) _ [] (sym (own-append k since more) ∙ made ∙ sym (append-nil (of_session k since))) in
    let are : AreTold (begun o.charter) k (base o.charter) since xs =
    subst (λ es. AreTold (begun o.charter) k es since xs) seen_base (subst (λ n. AreTold (begun o.charter) n (history s.view) since xs) number_is told) in
    subst (λ es. AreTold (begun o.charter) k (base o.charter) es xs) (sym new) (told_longer (begun o.charter) k (base o.charter) since more xs are none)

module _ {F : Type 0} (gives : F → Option Ask → F → Type 0) (gives_ahead : F → Ask → F → Type 0) (hears : F → Told → F → Type 0) (stops : F → F → Type 0) where
  -- a feed that was stopped, and one that was left alone
  pub breaks_off : (o : Office) (s t : Session) (f g h : F) (asks : List Ask) → Gave gives gives_ahead f asks g → Halts hears stops o s g asks t h → BreaksOff gives gives_ahead hears stops o s f t h
  breaks_off o s t f g h asks gave halts = record { asks = asks; full = g; gave = gave; halts = halts }

  pub serves_stopped : (o : Office) (s t u : Session) (f g h : F) → Asking gives gives_ahead hears o s f t g → number_of t.view ≡ number_of s.view → BreaksOff gives gives_ahead hears stops o t g u h
      → Serves gives gives_ahead hears stops o s f UntilRefused u h
  serves_stopped o s t u f g h so same broke =
      let learns = broke.halts.learns in
      let next = grew_more gives gives_ahead hears o s t u f g learns.exchanges learns.since so same learns.grew learns.told in
      record {
        turns = so.turns;
        last = learns.exchanges;
        since = so.since ++ learns.since;
        grew = next.0;
        told = next.1;
        ends = inl (record {
          before = g;
          talks = so.talks;
          asks = broke.asks;
          full = broke.full;
          gave = broke.gave;
          answered = broke.halts.answered;
          first = learns.asked;
          not_all = broke.halts.not_all;
          halted = subst (λ ys. Halted hears stops broke.full ys h) learns.answered broke.halts.halted;
        });
      }

  pub serves_not : (o : Office) (s : Session) (f : F) → Serves gives gives_ahead hears stops o s f NotAtAll s f
  serves_not o s f = record { turns = []; last = []; since = []; grew = sym (append-nil (history s.view)); told = refl; ends = record { same = refl; no_turns = refl; no_last = refl } }

  pub serves_no_room : (o : Office) (s : Session) (f : F) → Serves gives gives_ahead hears stops o s f UntilRefused s f
  serves_no_room o s f = record { turns = []; last = []; since = []; grew = sym (append-nil (history s.view)); told = refl; ends = inr (record { same = refl; no_turns = refl; no_last = refl }) }

  -- none, and one more
  pub served_none : (o : Office) (ss ts : List Session) (fs gs : List F) → length ss ≡ 0 → length fs ≡ 0 → ts ≡ [] → gs ≡ [] → AllServed gives gives_ahead hears stops o ss fs ToTheEnd ts gs
  served_none o ss ts fs gs none nor back fed =
      record { rows = []; serve = tt; no_worse = tt; sessions = nil_from_length ss none; feeds = nil_from_length fs nor; sessions_back = back; feeds_back = fed }

  serve_snoc : (o : Office) (rows : List (Row F)) (row : Row F) → AllServe gives gives_ahead hears stops o rows → Serves gives gives_ahead hears stops o row.session row.feed row.asked row.session_back row.feed_back
      → AllServe gives gives_ahead hears stops o (rows ++ row ∷ [])
  serve_snoc o [] row all is = (is, tt)
  serve_snoc o (x ∷ rows) row all is = (all.0, serve_snoc o rows row all.1 is)

  no_worse_snoc : (rows : List (Row F)) (row : Row F) (asked both : Asked) → AllNoWorse rows asked → NoWorse asked both → NoWorse row.asked both → AllNoWorse (rows ++ row ∷ []) both
  no_worse_snoc [] row asked both all less is = (is, tt)
  no_worse_snoc (x ∷ rows) row asked both all less is = (no_worse x.asked asked both all.0 less, no_worse_snoc rows row asked both all.1 less is)

  column : {A : Type 0} (of : Row F → A) (rows : List (Row F)) (row : Row F) (xs : List A) → xs ≡ map of rows → xs ++ of row ∷ [] ≡ map of (rows ++ row ∷ [])
  column of rows row xs is = ap (λ ys. ys ++ of row ∷ []) is ∙ sym (map-append of rows (row ∷ []))

  served_snoc : (o : Office) (ss ts : List Session) (fs gs : List F) (s t : Session) (f g : F) (asked mine both : Asked) → AllServed gives gives_ahead hears stops o ss fs asked ts gs
      → Serves gives gives_ahead hears stops o s f mine t g → IsWorst asked mine both
      → AllServed gives gives_ahead hears stops o (ss ++ s ∷ []) (fs ++ f ∷ []) both (ts ++ t ∷ []) (gs ++ g ∷ [])
  served_snoc o ss ts fs gs s t f g asked mine both all is worst =
      let row : Row F = record { session = s; feed = f; asked = mine; session_back = t; feed_back = g } in
      record {
        rows = all.rows ++ row ∷ [];
        serve = serve_snoc o all.rows row all.serve is;
        no_worse = no_worse_snoc all.rows row asked both all.no_worse worst.first worst.second;
        sessions = column (λ (r : Row F). r.session) all.rows row ss all.sessions;
        feeds = column (λ (r : Row F). r.feed) all.rows row fs all.feeds;
        sessions_back = column (λ (r : Row F). r.session_back) all.rows row ts all.sessions_back;
        feeds_back = column (λ (r : Row F). r.feed_back) all.rows row gs all.feeds_back;
      }

  -- the same, by the lists that hold those that came back
  pub served_put : (o : Office) (ss ts back : List Session) (fs gs fed : List F) (s t : Session) (f g : F) (asked mine both : Asked) → AllServed gives gives_ahead hears stops o ss fs asked ts gs
      → Serves gives gives_ahead hears stops o s f mine t g → (back ≡ ts ++ t ∷ []) × (fed ≡ gs ++ g ∷ []) → IsWorst asked mine both
      → AllServed gives gives_ahead hears stops o (ss ++ s ∷ []) (fs ++ f ∷ []) both back fed
  served_put o ss ts back fs gs fed s t f g asked mine both all is put worst =
      subst (λ xs. AllServed gives gives_ahead hears stops o (ss ++ s ∷ []) (fs ++ f ∷ []) both xs fed) (sym put.0)
      (subst (λ ys. AllServed gives gives_ahead hears stops o (ss ++ s ∷ []) (fs ++ f ∷ []) both (ts ++ t ∷ []) ys) (sym put.1) (served_snoc o ss ts fs gs s t f g asked mine both all is worst))

  -- of a closed office: what its sessions asked stands in the journal
  rows_told : (o : Office) (j : Journal) (k : ℕ) (worst : Asked) (rows : List (Row F)) → AllServe gives gives_ahead hears stops o rows → AllNoWorse rows worst → Numbered o k (map (λ (r : Row F). r.session) rows)
      → Returned o (map (λ (r : Row F). r.session) rows) (map (λ (r : Row F). r.session_back) rows) → HasAll o j (map (λ (r : Row F). r.session_back) rows)
      → AllTold gives gives_ahead hears stops worst (begun o.charter) (base o.charter) (news o.charter j) k (map (λ (r : Row F). r.feed) rows) (map (λ (r : Row F). r.feed_back) rows)
  rows_told o j k worst [] all least numbered returned has = tt
  rows_told o j k worst (row ∷ rows) all least numbered returned has =
      let is = all.0 in (
        (row.asked, is.turns, is.last, least.0, is.ends, own_told o j k row.session row.session_back is.since (in_turns is.turns ++ is.last) numbered.0 numbered.1 returned.0 returned.1 has.0 has.1 is.grew is.told),
        rows_told o j (k + 1) worst rows all.1 least.1 numbered.2 returned.2 has.2,
      )

  rows_fed : (o : Office) (j : Journal) (k : ℕ) (rows : List (Row F)) → AllServe gives gives_ahead hears stops o rows → AllNoWorse rows ToTheEnd → Numbered o k (map (λ (r : Row F). r.session) rows)
      → Returned o (map (λ (r : Row F). r.session) rows) (map (λ (r : Row F). r.session_back) rows) → HasAll o j (map (λ (r : Row F). r.session_back) rows)
      → AllFed gives gives_ahead hears (begun o.charter) (base o.charter) (news o.charter j) k (map (λ (r : Row F). r.feed) rows) (map (λ (r : Row F). r.feed_back) rows)
  rows_fed o j k [] all end numbered returned has = tt
  rows_fed o j k (row ∷ rows) all end numbered returned has =
      let is = all.0 in
      let fed : FeedEnds gives gives_ahead hears stops ToTheEnd row.feed is.turns is.last row.feed_back = subst (λ (a : Asked). FeedEnds gives gives_ahead hears stops a row.feed is.turns is.last row.feed_back) end.0 is.ends in
      let are = own_told o j k row.session row.session_back is.since (in_turns is.turns ++ is.last) numbered.0 numbered.1 returned.0 returned.1 has.0 has.1 is.grew is.told in (
        (is.turns, fed.0, subst (AreTold (begun o.charter) k (base o.charter) (news o.charter j)) (ap (λ xs. in_turns is.turns ++ xs) fed.1 ∙ append-nil (in_turns is.turns)) are),
        rows_fed o j (k + 1) rows all.1 end.1 numbered.2 returned.2 has.2,
      )

  pub all_told : (o : Office) (j : Journal) (ss ts : List Session) (fs gs : List F) (asked : Asked) → ss ≡ newcomers o o.charter.count → AllServed gives gives_ahead hears stops o ss fs asked ts gs → Returned o ss ts → HasAll o j ts
      → AllTold gives gives_ahead hears stops asked (begun o.charter) (base o.charter) (news o.charter j) 0 fs gs
  all_told o j ss ts fs gs asked new all returned has =
      let rows : List (Row F) = all.rows in
      let numbered : Numbered o 0 (map (λ (r : Row F). r.session) rows) = subst (Numbered o 0) (sym new ∙ all.sessions) (newcomers_numbered o o.charter.count).0 in
      let back : Returned o (map (λ (r : Row F). r.session) rows) (map (λ (r : Row F). r.session_back) rows) =
      subst (λ xs. Returned o xs (map (λ (r : Row F). r.session_back) rows)) all.sessions (subst (λ xs. Returned o ss xs) all.sessions_back returned) in
      subst (λ xs. AllTold gives gives_ahead hears stops asked (begun o.charter) (base o.charter) (news o.charter j) 0 xs gs) (sym all.feeds)
      (subst (λ xs. AllTold gives gives_ahead hears stops asked (begun o.charter) (base o.charter) (news o.charter j) 0 (map (λ (r : Row F). r.feed) rows) xs) (sym all.feeds_back)
      (rows_told o j 0 asked rows all.serve all.no_worse numbered back (subst (HasAll o j) all.sessions_back has)))

  pub all_fed : (o : Office) (j : Journal) (ss ts : List Session) (fs gs : List F) (asked : Asked) → ss ≡ newcomers o o.charter.count → AllServed gives gives_ahead hears stops o ss fs asked ts gs → asked ≡ ToTheEnd
      → Returned o ss ts → HasAll o j ts → AllFed gives gives_ahead hears (begun o.charter) (base o.charter) (news o.charter j) 0 fs gs
  all_fed o j ss ts fs gs asked new all end returned has =
      let rows : List (Row F) = all.rows in
      let numbered : Numbered o 0 (map (λ (r : Row F). r.session) rows) = subst (Numbered o 0) (sym new ∙ all.sessions) (newcomers_numbered o o.charter.count).0 in
      let back : Returned o (map (λ (r : Row F). r.session) rows) (map (λ (r : Row F). r.session_back) rows) =
      subst (λ xs. Returned o xs (map (λ (r : Row F). r.session_back) rows)) all.sessions (subst (λ xs. Returned o ss xs) all.sessions_back returned) in
      subst (λ xs. AllFed gives gives_ahead hears (begun o.charter) (base o.charter) (news o.charter j) 0 xs gs) (sym all.feeds)
      (subst (λ xs. AllFed gives gives_ahead hears (begun o.charter) (base o.charter) (news o.charter j) 0 (map (λ (r : Row F). r.feed) rows) xs) (sym all.feeds_back)
      (rows_fed o j 0 rows all.serve (subst (AllNoWorse rows) end all.no_worse) numbered back (subst (HasAll o j) all.sessions_back has)))

  -- of feeds that were left alone nothing stands in a journal as it was
  told_none : (worst : Asked) → NoWorse NotAtAll worst → (start : State) (before : List Entry) (k : ℕ) (fs : List F) → AllTold gives gives_ahead hears stops worst start before [] k fs fs
  told_none worst least start before k [] = tt
  told_none worst least start before k (f ∷ fs) =
      ((NotAtAll, [], [], least, record { same = refl; no_turns = refl; no_last = refl }, refl), told_none worst least start before (k + 1) fs)

  told_nothing : (worst : Asked) → NoWorse NotAtAll worst → (start : State) (before : List Entry) (k : ℕ) (fs : List F) → AllTold gives gives_ahead hears stops worst start before (drop (length before) before) k fs fs
  told_nothing worst least start before k fs =
      subst (λ es. AllTold gives gives_ahead hears stops worst start before es k fs fs) (sym (ap (drop (length before)) (sym (append-nil before)) ∙ drop-append_seam before [])) (told_none worst least start before k fs)

  pub untold : (start : State) (before : List Entry) (k : ℕ) (fs : List F) → AllTold gives gives_ahead hears stops NotAtAll start before (drop (length before) before) k fs fs
  untold start before k fs = told_nothing NotAtAll (λ is. subst goes_on is tt) start before k fs

  pub untold_refused : (start : State) (before : List Entry) (k : ℕ) (fs : List F) → AllTold gives gives_ahead hears stops UntilRefused start before (drop (length before) before) k fs fs
  untold_refused start before k fs = told_nothing UntilRefused tt start before k fs
