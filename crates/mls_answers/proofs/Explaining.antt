-- What stands under the line of an entry, and what is told of the entry of its number.
use Rattle.std.proofs.Common.{◌≡◌, ℕ, ◌<◌, ◌≤◌, List, length, take, Some, None, refl, sym, subst, arith}
use Rattle.std.proofs.lemmas.Option.{slice_get_within}
use Rattle.mls_explain_text.specs.Entries.{IsUnder}
use Rattle.mls_monitor.specs.Journal.{fold}
use Rattle.mls_requests.specs.declared.entry.Entry.{Entry}
use Rattle.mls_seen.specs.Files.{Seen, SeesJournal, SeesWhole}
use Rattle.mls_seen.specs.Histories.{History, IsOfFiles}
use Rattle.mls_answers.specs.Histories.{ExplainsAlike}

-- it is the same over the same files
pub alike : (h : History) (e : Entry) (under : List ℕ) → IsOfFiles h
    → IsUnder h.replayed.names h.replayed.start h.replayed.entries e under → ExplainsAlike h.files e under
alike h e under is stands =
    let r = h.replayed in
    let explained = stands.explains in
    let seen : Seen = record {
      files = h.files;
      at = Some e.number;
      names = r.names;
      start = r.start;
      state = fold r.start (take e.number r.entries);
      number = e.number;
      next = Some explained.entry;
    } in
    let inside : e.number < length r.entries = slice_get_within r.entries e.number explained.entry explained.there in
    let within : e.number ≤ length r.entries = omega (arith, inside) in
    let whole : SeesWhole seen = record {
      entries = r.entries;
      sees = record { text = is.replays.sees.text; ranges = is.replays.sees.ranges; legal = is.replays.sees.legal; seen = record { within = within; folded = refl } };
      number = refl;
      next = sym explained.there;
    } in record {
      told = stands.told;
      positive = stands.positive;
      explains = record {
        seen = seen;
        of_files = refl;
        before = refl;
        sees = record { says = is.replays.says; sees = subst (λ c. SeesJournal c seen) (sym is.whole) whole };
        so = record { entry = explained.entry; next = refl; explains = record { bytes = explained.explains.text; granted = explained.explains.granted } };
      };
      text = stands.text;
    }
