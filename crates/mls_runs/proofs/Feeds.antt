-- Feeds in their order, and what they print.
use Rattle.std.proofs.Common.{◌≡◌, ◌<◌, ◌+◌, ℕ, suc, false, take, map, length, get_or, List, [], ◌∷◌, ◌++◌, refl, sym, ap, ◌∙◌, arith, subst, Option}
use Rattle.std.specs.Prelude.{Bool}
use Rattle.std.specs.List.{list_any}
use Rattle.std.proofs.lemmas.Bool.{or_parts}
use Rattle.std.proofs.lemmas.List.{append_assoc, append-nil, take_more, length-take-le, map-append}
use Rattle.mls_scripts.specs.Feed.{ScriptFeed}
use Rattle.mls_scripts.specs.Fed.{Gives, GivesAhead, Takes, Prints}
use Rattle.mls_scripts.specs.Lines.{lines_of}
use Rattle.mls_scripts.proofs.Laws.{fed_prints}
use Rattle.mls_requests.specs.declared.entry.Entry.{Entry}
use Rattle.mls_lines.specs.Names.{Names}
use Rattle.mls_state.specs.State.{State}
use Rattle.mls_monitor.specs.Feeds.{Exchange, in_turns, AllFed}
use Rattle.mls_monitor.specs.Entries.{AllBelow}
use Rattle.mls_replay.specs.RunTexts.{heading}
use Rattle.mls_runs.specs.Threads.{ThreadsPrint, LeavesInThreads}
use Rattle.mls_runs.specs.RunFeeds.{IsFeedOf, AreFeedsOf, NoneFailed, LeavesFeeds, fed_texts}
-- a list of feeds at a stage, with one more
pub use Rattle.mls_monitor.proofs.FeedLists.{at_snoc}

-- no feed prints nothing
pub fed_none : (k : ℕ) → fed_texts k [] ≡ []
unfolding fed_texts
fed_none k = refl

-- what one feed more prints stands at the end
pub fed_pushed : (k : ℕ) (feeds : List ScriptFeed) (f : ScriptFeed) → fed_texts k (feeds ++ f ∷ []) ≡ fed_texts k feeds ++ (heading (k + length feeds) ++ f.text)
unfolding fed_texts
fed_pushed k [] f = append-nil (heading k ++ f.text) ∙ ap (λ n. heading n ++ f.text) (let e : k ≡ k + 0 = omega arith in e)
fed_pushed k (g ∷ feeds) f =
    ap (λ t. (heading k ++ g.text) ++ t) (fed_pushed (k + 1) feeds f) ∙ sym (append_assoc (heading k ++ g.text) (fed_texts (k + 1) feeds) _)
    ∙ ap (λ n. ((heading k ++ g.text) ++ fed_texts (k + 1) feeds) ++ (heading n ++ f.text)) (let e : (k + 1) + length feeds ≡ k + length (g ∷ feeds) = omega arith in e)

-- what the feeds before a place print, and the one there
pub fed_taken : (feeds : List ScriptFeed) (i k : ℕ) (d : ScriptFeed) → i < length feeds → k ≡ i
    → fed_texts 0 (take (i + 1) feeds) ≡ (fed_texts 0 (take i feeds) ++ heading k) ++ (get_or feeds i d).text
fed_taken feeds i k d within is =
    ap (fed_texts 0) (take_more feeds i d within) ∙ fed_pushed 0 (take i feeds) (get_or feeds i d)
    ∙ sym (append_assoc (fed_texts 0 (take i feeds)) (heading (0 + length (take i feeds))) ((get_or feeds i d).text))
    ∙ ap (λ n. (fed_texts 0 (take i feeds) ++ heading n) ++ (get_or feeds i d).text) (let e : 0 + length (take i feeds) ≡ k = omega (arith, length-take-le i feeds (omega arith)) in e)

-- the text of one feed more
pub fed_more : (begun now headed new said : List ℕ) (feeds : List ScriptFeed) (i k : ℕ) (d : ScriptFeed) → i < length feeds → k ≡ i
    → now ≡ begun ++ fed_texts 0 (take i feeds) → headed ≡ now ++ heading k → new ≡ headed ++ said → said ≡ d.text → d ≡ get_or feeds i d
    → new ≡ begun ++ fed_texts 0 (take (i + 1) feeds)
fed_more begun now headed new said feeds i k d within is so_far head grown says here =
    let front : List ℕ = fed_texts 0 (take i feeds) in
    let last : List ℕ = (get_or feeds i d).text in
    grown ∙ ap (λ t. headed ++ t) (says ∙ ap (λ f. f.text) here) ∙ ap (λ t. t ++ last) (head ∙ ap (λ t. t ++ heading k) so_far)
    ∙ ap (λ t. t ++ last) (append_assoc begun front (heading k)) ∙ append_assoc begun (front ++ heading k) last
    ∙ ap (λ t. begun ++ t) (sym (fed_taken feeds i k d within is))

-- the feeds of one script more
feeds_more : (names : Names) (scripts : List (List ℕ)) (script : List ℕ) (feeds : List ScriptFeed) (f : ScriptFeed) → AreFeedsOf names scripts feeds → IsFeedOf names script f
    → AreFeedsOf names (scripts ++ script ∷ []) (feeds ++ f ∷ [])
feeds_more names [] script [] f are is = (is, tt)
feeds_more names [] script (g ∷ feeds) f are is = absurd are
feeds_more names (s ∷ scripts) script [] f are is = absurd are
feeds_more names (s ∷ scripts) script (g ∷ feeds) f are is = (are.0, feeds_more names scripts script feeds f are.1 is)

-- the same of scripts up to a place
pub feeds_taken : {X : Type 0} (of : X → List ℕ) (names : Names) (scripts : List X) (i : ℕ) (d : X) (feeds : List ScriptFeed) (f : ScriptFeed) → i < length scripts
    → AreFeedsOf names (map of (take i scripts)) feeds → IsFeedOf names (of (get_or scripts i d)) f → AreFeedsOf names (map of (take (i + 1) scripts)) (feeds ++ f ∷ [])
feeds_taken of names scripts i d feeds f within are is =
    let more : map of (take (i + 1) scripts) ≡ map of (take i scripts) ++ of (get_or scripts i d) ∷ [] =
    ap (map of) (take_more scripts i d within) ∙ map-append of (take i scripts) (get_or scripts i d ∷ []) in
    subst (λ ss. AreFeedsOf names ss (feeds ++ f ∷ [])) (sym more) (feeds_more names (map of (take i scripts)) (of (get_or scripts i d)) feeds f are is)

are_many : (names : Names) (scripts : List (List ℕ)) (feeds : List ScriptFeed) → AreFeedsOf names scripts feeds → length feeds ≡ length scripts
are_many names [] [] are = refl
are_many names [] (f ∷ feeds) are = absurd are
are_many names (s ∷ scripts) [] are = absurd are
are_many names (s ∷ scripts) (f ∷ feeds) are = ap suc (are_many names scripts feeds are.1)

-- where no feed says that an allocation failed
pub none_failed : (feeds : List ScriptFeed) → list_any (λ f. f.failed) feeds ≡ false → NoneFailed feeds
none_failed [] none = tt
none_failed (f ∷ feeds) none =
    let parts = or_parts f.failed (list_any (λ g. g.failed) feeds) none in
    (parts.0, none_failed feeds parts.1)

-- what feeds have to say is what their scripts print
threads_print : (names : Names) (start : State) (entries : List Entry) (k : ℕ) (scripts : List (List ℕ)) (feeds left : List ScriptFeed) → AreFeedsOf names scripts feeds
    → AllFed Gives GivesAhead Takes start [] entries k feeds left → NoneFailed left → ThreadsPrint names start entries k scripts (fed_texts k left)
unfolding fed_texts
threads_print names start entries k [] [] [] are fed none = refl
threads_print names start entries k [] [] (g ∷ left) are fed none = absurd fed
threads_print names start entries k [] (f ∷ feeds) left are fed none = absurd are
threads_print names start entries k (s ∷ scripts) [] left are fed none = absurd are
threads_print names start entries k (s ∷ scripts) (f ∷ feeds) [] are fed none = absurd fed
threads_print names start entries k (s ∷ scripts) (f ∷ feeds) (g ∷ left) are fed none =
    let xs : List Exchange = in_turns fed.0.0 in
    let is : IsFeedOf names s f = are.0 in
    let printed = fed_prints f g fed.0.0 fed.0.1 none.0 in
    let said : List ℕ = printed.0 in
    let prints : Prints names [] (lines_of s) xs said =
    subst (λ n. Prints n [] (lines_of s) xs said) is.names_are
    (subst (λ vs. Prints f.names vs (lines_of s) xs said) is.vars (subst (λ rest. Prints f.names f.vars (lines_of rest) xs said) is.rest printed.2)) in (
      xs,
      said,
      fed_texts (k + 1) left,
      fed.0.2,
      prints,
      ap (λ t. (heading k ++ t) ++ fed_texts (k + 1) left) (printed.1 ∙ ap (λ t. t ++ said) is.text),
      threads_print names start entries (k + 1) scripts feeds left are.1 fed.1 none.1,
    )

-- so it is of a run
pub leaves_in_threads : (names : Names) (start : State) (scripts : List (List ℕ)) (feeds : List ScriptFeed) (asked : Bool) (output : List ℕ) (journal : Option (List ℕ)) → AreFeedsOf names scripts feeds
    → LeavesFeeds start feeds asked output journal → LeavesInThreads names start scripts asked output journal
leaves_in_threads names start scripts feeds asked output journal are so = (
  so.0,
  fed_texts 0 so.1,
  so.2,
  subst (λ n. AllBelow n so.0) (are_many names scripts feeds are) so.3,
  threads_print names start so.0 0 scripts feeds so.1 are so.4 so.5,
  so.6,
  so.7,
)
