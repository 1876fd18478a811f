-- What scripts leave and print that are run one after the other.
use Rattle.std.specs.Prelude.{map, min, IfSome, option_map, is_some, if◌then◌else◌}
use Rattle.std.proofs.Common.{◌≡◌, ◌<◌, ◌≤◌, ◌+◌, ◌-◌, ◌^◌, ℕ, Bool, take, length, get_or, List, [], ◌∷◌, ◌++◌, refl, sym, ap, ◌∙◌, arith, Option, Some, None}
use Rattle.std.proofs.lemmas.List.{append_assoc, append-nil, map_more, length-map, length-take-le, take_all}
use Rattle.mls_state.specs.State.{State}
use Rattle.mls_requests.specs.declared.entry.Entry.{Entry}
use Rattle.mls_journal.specs.EntryText.{journal_text}
use Rattle.mls_lines.specs.Names.{Names}
use Rattle.mls_start_file.specs.Says.{SaysStart}
use Rattle.mls_start_file.specs.Ties.{Loaded}
use Rattle.mls_replay.proofs.AskedJournals.{journal_asked}
use Rattle.mls_runs.specs.Run.{left_entries, script_text, session_after, scripts_left, scripts_text, run_entries, run_text, RunsOver}

-- no script leaves what was there
pub left_none : (names : Names) (start : State) (k : ℕ) (begun : List Entry) → scripts_left names start k begun [] ≡ begun
unfolding scripts_left
left_none names start k begun = refl

-- no script prints nothing
pub text_none : (names : Names) (start : State) (k : ℕ) (begun : List Entry) → scripts_text names start k begun [] ≡ []
unfolding scripts_text
text_none names start k begun = refl

-- one script more goes on with what those before it left
left_pushed : (names : Names) (start : State) (k : ℕ) (begun : List Entry) (scripts : List (List ℕ)) (script : List ℕ)
    → scripts_left names start k begun (scripts ++ script ∷ [])
    ≡ left_entries names (session_after (k + length scripts)) start (scripts_left names start k begun scripts) script
unfolding scripts_left
left_pushed names start k begun [] script =
    ap (λ n. left_entries names (session_after n) start begun script) (let e : k ≡ k + 0 = omega arith in e)
left_pushed names start k begun (first ∷ scripts) script =
    left_pushed names start (k + 1) (left_entries names (session_after k) start begun first) scripts script
    ∙ ap (λ n. left_entries names (session_after n) start (scripts_left names start (k + 1) (left_entries names (session_after k) start begun first) scripts) script)
    (let e : (k + 1) + length scripts ≡ k + length (first ∷ scripts) = omega arith in e)

-- one script more prints over what those before it left
text_pushed : (names : Names) (start : State) (k : ℕ) (begun : List Entry) (scripts : List (List ℕ)) (script : List ℕ)
    → scripts_text names start k begun (scripts ++ script ∷ [])
    ≡ scripts_text names start k begun scripts ++ script_text names (session_after (k + length scripts)) start (scripts_left names start k begun scripts) script
unfolding scripts_left scripts_text
text_pushed names start k begun [] script =
    append-nil (script_text names (session_after k) start begun script)
    ∙ ap (λ n. script_text names (session_after n) start begun script) (let e : k ≡ k + 0 = omega arith in e)
text_pushed names start k begun (first ∷ scripts) script =
    let head : List ℕ = script_text names (session_after k) start begun first in
    let left : List Entry = left_entries names (session_after k) start begun first in
    ap (λ t. head ++ t) (text_pushed names start (k + 1) left scripts script)
    ∙ sym (append_assoc head (scripts_text names start (k + 1) left scripts) _)
    ∙ ap (λ n. (head ++ scripts_text names start (k + 1) left scripts) ++ script_text names (session_after n) start (scripts_left names start (k + 1) left scripts) script)
    (let e : (k + 1) + length scripts ≡ k + length (first ∷ scripts) = omega arith in e)

-- as many scripts are taken as the place says
taken : {X : Type 0} (bytes : X → List ℕ) (scripts : List X) (i : ℕ) → i < length scripts → 0 + length (map bytes (take i scripts)) ≡ i
taken bytes scripts i within =
    let many : length (map bytes (take i scripts)) ≡ length (take i scripts) = length-map (take i scripts) bytes in
    let front : length (take i scripts) ≡ i = length-take-le i scripts (omega arith) in
    omega arith

-- the session after the next script
next_session : (i session new : ℕ) → session ≡ session_after i → new ≡ min (session + 1) (2 ^ 32 - 1) → new ≡ session_after (i + 1)
next_session i session new at counted = omega arith

-- The first of some scripts were run, as many as i, over this start and journal, after what was printed first.
pub record Ran {X : Type 0} (bytes : X → List ℕ) (names : Names) (start : State) (begun : List Entry) (first : List ℕ) (scripts : List X) (i session : ℕ) (here : State)
    (now : List Entry) (printed : List ℕ) : Type 0 where
  pub next : session ≡ session_after i
  pub same : here ≡ start
  pub left : now ≡ scripts_left names start 0 begun (map bytes (take i scripts))
  pub said : printed ≡ first ++ scripts_text names start 0 begun (map bytes (take i scripts))

-- no script was run
pub ran_none : {X : Type 0} (bytes : X → List ℕ) (names : Names) (start : State) (begun : List Entry) (first : List ℕ) (scripts : List X)
    → Ran bytes names start begun first scripts 0 0 start begun first
ran_none bytes names start begun first scripts = record {
  next = omega arith;
  same = refl;
  left = sym (left_none names start 0 begun);
  said = sym (ap (λ t. first ++ t) (text_none names start 0 begun) ∙ append-nil first);
}

-- one script more was run
pub ran_more : {X : Type 0} (bytes : X → List ℕ) (names : Names) (start here after : State) (begun now new : List Entry) (first printed more : List ℕ) (scripts : List X)
    (i session after_it : ℕ) (d : X) → Ran bytes names start begun first scripts i session here now printed → i < length scripts → after ≡ here
    → new ≡ left_entries names session here now (bytes (get_or scripts i d)) → more ≡ printed ++ script_text names session here now (bytes (get_or scripts i d))
    → after_it ≡ min (session + 1) (2 ^ 32 - 1) → Ran bytes names start begun first scripts (i + 1) after_it after new more
ran_more bytes names start here after begun now new first printed more scripts i session after_it d ran within kept leaves says counted =
    let front : List (List ℕ) = map bytes (take i scripts) in
    let last : List ℕ = bytes (get_or scripts i d) in record {
      next = next_session i session after_it ran.next counted;
      same = kept ∙ ran.same;
      left = leaves ∙ (λ n. left_entries names (ran.next n) (ran.same n) (ran.left n) last)
          ∙ ap (λ n. left_entries names (session_after n) start (scripts_left names start 0 begun front) last) (sym (taken bytes scripts i within))
          ∙ sym (left_pushed names start 0 begun front last)
          ∙ ap (scripts_left names start 0 begun) (sym (map_more bytes scripts i d within));
      said = says ∙ (λ n. ran.said n ++ script_text names (ran.next n) (ran.same n) (ran.left n) last)
          ∙ ap (λ n. (first ++ scripts_text names start 0 begun front) ++ script_text names (session_after n) start (scripts_left names start 0 begun front) last)
          (sym (taken bytes scripts i within))
          ∙ append_assoc first (scripts_text names start 0 begun front) _
          ∙ ap (λ t. first ++ t) (sym (text_pushed names start 0 begun front last))
          ∙ ap (λ t. first ++ scripts_text names start 0 begun t) (sym (map_more bytes scripts i d within));
    }

-- all scripts were run
pub ran_all : {X : Type 0} (bytes : X → List ℕ) (names : Names) (start here : State) (begun now : List Entry) (first printed : List ℕ) (scripts : List X) (i session : ℕ)
    → Ran bytes names start begun first scripts i session here now printed → length scripts ≤ i
    → (now ≡ scripts_left names start 0 begun (map bytes scripts)) × (printed ≡ first ++ scripts_text names start 0 begun (map bytes scripts))
ran_all bytes names start here begun now first printed scripts i session ran over =
    let whole : take i scripts ≡ scripts = take_all i scripts over in (
      ran.left ∙ ap (λ xs. scripts_left names start 0 begun (map bytes xs)) whole,
      ran.said ∙ ap (λ xs. first ++ scripts_text names start 0 begun (map bytes xs)) whole,
    )

-- what a run over the start that a file says returns
pub runs_over : {X : Type 0} (file : List ℕ) (scripts : List (List ℕ)) (asked : Bool) (loaded : Loaded) (names : Names) (start : State) (output : List ℕ) (journal : Option X)
    (bytes : X → List ℕ) → SaysStart file loaded → names ≡ loaded.names → start ≡ loaded.start → output ≡ run_text names start scripts
    → IfSome journal (λ text. bytes text ≡ journal_text (run_entries names start scripts)) → is_some journal ≡ asked
    → RunsOver file scripts asked output (option_map bytes journal)
runs_over file scripts asked loaded names start output journal bytes says named opened printed left there = (
  loaded,
  says,
  printed ∙ (λ n. run_text (named n) (opened n) scripts),
  journal_asked bytes journal asked _ there left ∙ ap (λ text. if asked then Some text else None) (λ n. journal_text (run_entries (named n) (opened n) scripts)),
)
