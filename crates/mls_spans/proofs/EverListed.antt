-- What is listed of the states in which gets would be granted.
use Rattle.std.proofs.Common.{◌≡◌, ℕ, ◌<◌, Bool, true, false, cond, List, [], Option, Result, Ok, Err, sym, ap, subst, ◌∙◌}
use Rattle.std.specs.Prelude.{IfOk, filter}
use Rattle.std.specs.List.{All, flat_map, list_any}
use Rattle.std.proofs.lemmas.List.Elements.{All-filter, All-nil}
use Rattle.mls_lines.specs.Names.{Names}
use Rattle.mls_marks.specs.declared.row.Row.{Row}
use Rattle.mls_requests.specs.declared.entry.Entry.{Entry}
use Rattle.mls_replay.specs.Replays.{Replayed}
use Rattle.mls_rows.specs.declared.form.Form.{Form}
use Rattle.mls_rows.specs.declared.listing.Listing.{Listing}
use Rattle.mls_state.specs.State.{State}
use Rattle.mls_tables.specs.Mode.{ModeSet}
use Rattle.mls_tables.specs.Triples.{Triple}
use Rattle.mls_spans.specs.Asked.{has_window, is_some_state}
use Rattle.mls_spans.specs.EverLines.{ever_row}
use Rattle.mls_spans.specs.EverListings.{IsEver, is_seen, permissions_seen, windows_seen}
use Rattle.mls_spans.specs.Kept.{IsTally, is_there}
use Rattle.mls_spans.specs.Permissions.{accesses_to, permissions_to}
use Rattle.mls_spans.specs.Turning.{AreTurns, found_seen}
use Rattle.mls_spans.specs.UsageListings.{entries_between}
use Rattle.mls_spans.specs.Uses.{is_permission}
use Rattle.mls_spans.specs.Windows.{between, is_any}
use Rattle.mls_spans.specs.declared.states.States.{States}
use Rattle.mls_spans.specs.declared.tally.Tally.{Tally}
use Rattle.mls_spans.specs.declared.turn.Turn.{Turn}
use Rattle.mls_spans.specs.declared.turning.Turns.{Turns}
use Rattle.mls_spans.proofs.EverRows.{IsTo, all_to, filter_alike, any_alike, flat_alike}

-- the permissions by what is kept of them
pub permissions_told : (v : State) (es : List Entry) (asked : ModeSet) (o : ℕ) (m : Tally) → o < 65536 → IsTally v es m
    → filter (is_there v m) (accesses_to v asked o) ≡ permissions_to v es asked o
permissions_told v es asked o m small tally =
    filter_alike (IsTo o) (is_there v m) (is_permission v es) (accesses_to v asked o) (all_to v asked o)
    (λ t to. let fits : t.1 < 65536 = subst (λ k. k < 65536) (sym to.0) small in tally.there t fits)

seen_to : (b : Bool) (v : State) (es : List Entry) (asked : ModeSet) (o : ℕ) → All (IsTo o) (cond b (permissions_to v es asked o) [])
seen_to true v es asked o = All-filter (is_permission v es) (IsTo o) (accesses_to v asked o) (all_to v asked o)
seen_to false v es asked o = All-nil (IsTo o)

-- the spans by where gets turn
found_is : (r : Replayed) (states : States) (o : ℕ) (m : Turns) (t : Triple) → m.object ≡ o → AreTurns r.start r.entries m → IsTo o t
    → found_seen m.turns.items states t ≡ windows_seen r states t
found_is r states o m t object turns to =
    ap (λ k. filter (has_window states) (between k.1)) (turns.each t (to.0 ∙ sym object) to.1)

is_ever : (form : Form) (r : Replayed) (rows : Option (List Row)) (states : States) (asked : ModeSet) (o : ℕ) (m : Turns) (accesses : List Triple)
    (listing : Listing) → m.object ≡ o → AreTurns r.start r.entries m → accesses ≡ permissions_seen r states asked o
    → listing.bytes.items ≡ flat_map (λ t. ever_row form r.names rows t (found_seen m.turns.items states t)) accesses
    → listing.is_positive ≡ list_any (λ t. is_any (found_seen m.turns.items states t)) accesses → IsEver form r rows states asked o listing
is_ever form r rows states asked o m accesses listing object turns are bytes positive =
    let seen = permissions_seen r states asked o in
    let to : All (IsTo o) seen = seen_to (is_some_state states) r.state (entries_between states r.entries) asked o in
    record {
      bytes =
          bytes ∙ ap (flat_map (λ t. ever_row form r.names rows t (found_seen m.turns.items states t))) are
          ∙ flat_alike (IsTo o) (λ t. ever_row form r.names rows t (found_seen m.turns.items states t))
          (λ t. ever_row form r.names rows t (windows_seen r states t)) seen to
          (λ t is. ap (ever_row form r.names rows t) (found_is r states o m t object turns is));
      positive =
          positive ∙ ap (list_any (λ t. is_any (found_seen m.turns.items states t))) are
          ∙ any_alike (IsTo o) (λ t. is_any (found_seen m.turns.items states t)) (is_seen r states) seen to
          (λ t is. ap is_any (found_is r states o m t object turns is));
    }

-- the same of a result, by names that are those of the replay, and by turns that are those that are kept
pub ever_ok : (form : Form) (r : Replayed) (names : Names) (rows : Option (List Row)) (states : States) (asked : ModeSet) (o : ℕ) (m : Turns)
    (found : List Turn) (accesses : List Triple) {E : Type 0} (result : Result Listing E) → names ≡ r.names → m.object ≡ o
    → AreTurns r.start r.entries m → found ≡ m.turns.items → accesses ≡ permissions_seen r states asked o
    → IfOk result (λ listing. listing.bytes.items ≡ flat_map (λ t. ever_row form names rows t (found_seen found states t)) accesses)
    → IfOk result (λ listing. listing.is_positive ≡ list_any (λ t. is_any (found_seen found states t)) accesses)
    → IfOk result (λ listing. IsEver form r rows states asked o listing)
ever_ok form r names rows states asked o m found accesses (Ok listing) same object turns at are bytes positive =
    is_ever form r rows states asked o m accesses listing object turns are
    (bytes ∙ (λ i. flat_map (λ t. ever_row form (same i) rows t (found_seen (at i) states t)) accesses))
    (positive ∙ (λ i. list_any (λ t. is_any (found_seen (at i) states t)) accesses))
ever_ok form r names rows states asked o m found accesses (Err fault) same object turns at are bytes positive = tt
