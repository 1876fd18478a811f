-- What sessions ask for feeds and tell them in a run.
use Rattle.std.specs.Prelude.{◌≡◌, ◌≢◌, ◌⊎◌, ℕ, ◌+◌, ◌<◌, List, [], ◌∷◌, ◌++◌, length, take, map, Option}
use Rattle.mls_state.specs.State.{State}
use Rattle.mls_requests.specs.declared.ask.Ask.{Ask}
use Rattle.mls_requests.specs.declared.entry.Entry.{Entry}
use Rattle.mls_sessions.specs.Journals.{Charter}
use Rattle.mls_turns.specs.Journals.{Journal, journal}
use Rattle.mls_monitor.specs.Entries.{AllOf}
use Rattle.mls_monitor.specs.Feeds.{Exchange, asks_of, answers_of, IsTold, AreTold, Turn, in_turns, Heard, Halted, Gave}
use Rattle.mls_monitor.specs.Feeds.{Talks, Fed}
use Rattle.mls_sessions.specs.Rule.{begun}
use Rattle.mls_sessions.specs.Sessions.{Office, Session, history, number_of}
use Rattle.mls_sessions.specs.declared.gate_table.View.{View}
use Rattle.mls_sessions.specs.declared.asked.Asked.{Asked}
use Rattle.mls_sessions.specs.declared.asked.Asked.TheVariants.{ToTheEnd, UntilRefused, NotAtAll}
use Rattle.mls_sessions.specs.declared.run_fault.RunFaultKind.{RunFaultKind}
use Rattle.mls_sessions.specs.declared.run_fault.RunFaultKind.TheVariants.{BadCount, Memory, Thread}
use Rattle.mls_monitor.specs.declared.feed.Answer.{Answer as Told}

-- A monitor was asked this for session k and answered that: its journal got what it answers by, and no entry of another
-- session. (own)
pub record Gets (k : ℕ) (old : Journal) (a : Ask) (t : Told) (new : Journal) : Type 0 where
  pub since : List Entry
  pub grew : new ≡ journal old.start old.forgotten (old.entries ++ since)
  pub mine : AllOf k since
  pub told : IsTold old.start k old.entries a t since

-- A monitor was asked this for session k, and what it answered is kept behind the answers before. (own)
pub record GetsMore (k : ℕ) (old : Journal) (a : Ask) (before after : List Told) (new : Journal) : Type 0 where
  pub answer : Told
  pub kept : after ≡ before ++ answer ∷ []
  pub gets : Gets k old a answer new

-- A monitor was asked these for session k, one after the other, and gave these answers in that order. (own)
pub record AllGet (k : ℕ) (old : Journal) (asks : List Ask) (answers : List Told) (new : Journal) : Type 0 where
  pub exchanges : List Exchange
  pub since : List Entry
  pub asked : asks ≡ asks_of exchanges
  pub answered : answers ≡ answers_of exchanges
  pub grew : new ≡ journal old.start old.forgotten (old.entries ++ since)
  pub mine : AllOf k since
  pub told : AreTold old.start k old.entries since exchanges

-- A session asked this, one after the other, and was told that: its history is the old one with what the journal got
-- since. (own)
pub record Learns (c : Charter) (old : View) (asks : List Ask) (answers : List Told) (new : View) : Type 0 where
  pub exchanges : List Exchange
  pub since : List Entry
  pub asked : asks ≡ asks_of exchanges
  pub answered : answers ≡ answers_of exchanges
  pub grew : history new ≡ history old ++ since
  pub told : AreTold (begun c) (number_of old) (history old) since exchanges

-- A session asked this for a feed that hears answers in this way, and told it the answers. (own)
pub record Tells {F : Type 0} (hears : F → Told → F → Type 0) (o : Office) (s : Session) (f : F) (asks : List Ask)
    (t : Session) (g : F) : Type 0 where
  pub answers : List Told
  pub learns : Learns o.charter s.view asks answers t.view
  pub heard : Heard hears f answers g

-- A session asked this for a feed until an allocation failed, before all was answered: it told the feed the answers to
-- the first of it, and that it is stopped. (own)
pub record Halts {F : Type 0} (hears : F → Told → F → Type 0) (stops : F → F → Type 0) (o : Office) (s : Session)
    (f : F) (asks : List Ask) (t : Session) (g : F) : Type 0 where
  pub answered : ℕ
  pub answers : List Told
  pub learns : Learns o.charter s.view (take answered asks) answers t.view
  pub not_all : answered < length asks
  pub halted : Halted hears stops f answers g

-- Of feeds that give asks and hear answers in these ways.
module _ {F : Type 0} (gives : F → Option Ask → F → Type 0) (gives_ahead : F → Ask → F → Type 0)
    (hears : F → Told → F → Type 0) where
  -- A session asked for what the feed gave in one turn, and told it the answers. (own)
  pub record TakesTurn (o : Office) (s : Session) (f : F) (t : Session) (g : F) : Type 0 where
    pub asks : List Ask
    pub full : F
    pub gave : Gave gives gives_ahead f asks full
    pub tells : Tells hears o s full asks t g

-- A feed that was asked nothing, and told nothing. (own)
pub record LeftAlone {F : Type 0} (f : F) (turns : List Turn) (last : List Exchange) (g : F) : Type 0 where
  pub same : g ≡ f
  pub no_turns : turns ≡ []
  pub no_last : last ≡ []

-- A session that asked, the feed that it was given, how far it asked, and the session and the feed that came back.
-- (own)
pub record Row (F : Type 0) : Type 0 where
  pub session : Session
  pub feed : F
  pub asked : Asked
  pub session_back : Session
  pub feed_back : F

-- That a feed was asked so far is no worse than that another was: an allocation that failed is worse than a thread that
-- couldn't be started. (own)
abbrev pub NoWorse : Asked → Asked → Type 0
NoWorse a UntilRefused = Unit {0}
NoWorse a NotAtAll = a ≢ UntilRefused
NoWorse a ToTheEnd = a ≡ ToTheEnd

-- Neither of two is worse than this. (own)
pub record IsWorst (one other worst : Asked) : Type 0 where
  pub first : NoWorse one worst
  pub second : NoWorse other worst

-- None is worse than this. (own)
abbrev pub AllNoWorse : {F : Type 0} → List (Row F) → Asked → Type 0
AllNoWorse [] worst = Unit {0}
AllNoWorse (row ∷ rows) worst = NoWorse row.asked worst × AllNoWorse rows worst

-- The worst that can have become of a feed in a run that ended so. (own)
abbrev pub worst_of : RunFaultKind → Asked
worst_of BadCount = NotAtAll
worst_of Memory = UntilRefused
worst_of Thread = NotAtAll

-- Of feeds that give asks, hear answers and stop in these ways.
module _ {F : Type 0} (gives : F → Option Ask → F → Type 0) (gives_ahead : F → Ask → F → Type 0)
    (hears : F → Told → F → Type 0) (stops : F → F → Type 0) where
  -- The feed was fed turn by turn, and then gave asks in one turn more of which the first alone were answered, not all:
  -- it was told these answers, and that it is stopped. (own)
  pub record Stopped (f : F) (turns : List Turn) (last : List Exchange) (g : F) : Type 0 where
    pub before : F
    pub talks : Talks gives gives_ahead hears f turns before
    pub asks : List Ask
    pub full : F
    pub gave : Gave gives gives_ahead before asks full
    pub answered : ℕ
    pub first : take answered asks ≡ asks_of last
    pub not_all : answered < length asks
    pub halted : Halted hears stops full (answers_of last) g

  -- A session asked for what the feed gave in one turn, and broke off where an allocation failed. (own)
  pub record BreaksOff (o : Office) (s : Session) (f : F) (t : Session) (g : F) : Type 0 where
    pub asks : List Ask
    pub full : F
    pub gave : Gave gives gives_ahead f asks full
    pub halts : Halts hears stops o s full asks t g

  -- How a feed comes back that was asked so far: to its end; until it was stopped, or left alone where there was no
  -- room for what it asks; or left alone. (own)
  abbrev pub FeedEnds : Asked → F → List Turn → List Exchange → F → Type 0
  FeedEnds ToTheEnd f turns last g = Fed gives gives_ahead hears f turns g × (last ≡ [])
  FeedEnds UntilRefused f turns last g = Stopped f turns last g ⊎ LeftAlone f turns last g
  FeedEnds NotAtAll f turns last g = LeftAlone f turns last g

  -- A session asked for what the feed gave, so far, and told it the answers. (own)
  pub record Serves (o : Office) (s : Session) (f : F) (asked : Asked) (t : Session) (g : F) : Type 0 where
    pub turns : List Turn
    pub last : List Exchange
    pub since : List Entry
    pub grew : history t.view ≡ history s.view ++ since
    pub told : AreTold (begun o.charter) (number_of s.view) (history s.view) since (in_turns turns ++ last)
    pub ends : FeedEnds asked f turns last g

  -- Each of the sessions asked so. (own)
  abbrev pub AllServe : Office → List (Row F) → Type 0
  AllServe o [] = Unit {0}
  AllServe o (row ∷ rows) = Serves o row.session row.feed row.asked row.session_back row.feed_back × AllServe o rows

  -- Each of these sessions asked what its feed gave, and they came back with their feeds, all in their order; none was
  -- asked less far than is said. (own)
  pub record AllServed (o : Office) (ss : List Session) (fs : List F) (asked : Asked) (ts : List Session)
      (gs : List F) : Type 0 where
    pub rows : List (Row F)
    pub serve : AllServe o rows
    pub no_worse : AllNoWorse rows asked
    pub sessions : ss ≡ map (λ (row : Row F). row.session) rows
    pub feeds : fs ≡ map (λ (row : Row F). row.feed) rows
    pub sessions_back : ts ≡ map (λ (row : Row F). row.session_back) rows
    pub feeds_back : gs ≡ map (λ (row : Row F). row.feed_back) rows

  -- Each feed, the first as that of session k, was asked to some point, which is no worse than this, and was told just
  -- the answers to those of its asks that the journal answers; they stand in their order. (own)
  abbrev pub AllTold : Asked → State → List Entry → List Entry → ℕ → List F → List F → Type 0
  AllTold worst start before since k [] [] = Unit {0}
  AllTold worst start before since k (f ∷ fs) (g ∷ gs) =
      ((asked : Asked) × (turns : List Turn) × (last : List Exchange) × NoWorse asked worst
      × FeedEnds asked f turns last g × AreTold start k before since (in_turns turns ++ last))
      × AllTold worst start before since (k + 1) fs gs
  AllTold worst start before since k fs gs = ⊥
