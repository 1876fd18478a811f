-- The text of a state over a start: its rows are within what is read, and say all of that state.
use Rattle.std.proofs.Common.{◌≡◌, ℕ, zero, suc, ◌<◌, ◌≤◌, true, List, [], ◌∷◌, length, Option, Some, None, Result, Ok, Err, sym, ap, subst, ◌∙◌, arith}
use Rattle.std.proofs.lemmas.Bool.{and_parts}
use Rattle.std.proofs.lemmas.Bool.Decides.{nat_tests}
use Rattle.std.proofs.lemmas.Str.{IsUtf8-from_ascii, IsAscii-append}
use Rattle.std.specs.Prelude.{nat_lt, is_some, IfSome, IfErr, IsTrue}
use Rattle.std.specs.FinMap as maps
use Rattle.std.specs.List.{list_all}
use Rattle.std.specs.Str.{IsAscii, IsUtf8}
use Rattle.mls_labels.specs.Label.{has_label}
use Rattle.mls_lines.specs.Labels.{is_label_byte}
use Rattle.mls_lines.specs.Names.{Names}
use Rattle.mls_lines.proofs.AsciiBytes.{label_is_ascii}
use Rattle.mls_start_file.specs.Ties.{AreTied, HasFewNames}
use Rattle.mls_state.specs.State.{State, is_subject}
use Rattle.mls_tables.specs.declared.limits.TheConstants.{MAX_OBJECTS}
use Rattle.mls_wording.specs.ReadBack.{HasNames}
use Rattle.mls_snapshots.specs.declared.state_rows.StateRows.{StateRows}
use Rattle.mls_snapshots.specs.Gathering.{Says, said_by}
use Rattle.mls_snapshots.specs.Reading.{IsOver, IsTextOver}
use Rattle.mls_snapshots.specs.Rebuilding.{IsNamed}
use Rattle.mls_snapshots.specs.Rows.{Row, Kind, Next, Subject, Object, Triple, are_seen, spaced, words_of, row_line, first_of, rest_of, joined, IsNamedSubject, IsWithin, AllWithin}
use Rattle.mls_snapshots.specs.Saying.{SaysAll}
use Rattle.mls_snapshots.proofs.Gathered.{says_all}
use Rattle.mls_snapshots.proofs.OneText.{from_some, security_is, integrity_is, in_security, in_integrity, known_few, active_few, known_triple}
use Rattle.mls_snapshots.proofs.RowsOf.{rows_of, state_joined}
use Rattle.mls_snapshots.proofs.RowsSay.{IsRowOf, Each, each_row}

module _ (names : Names) (start : State) (tied : AreTied names start) (few : HasFewNames names) where
  -- the subjects of a state over the start are those that have a name
  counted : (v : State) → IsOver start v → (s : ℕ) → is_subject v s ≡ nat_lt s (length names.subjects)
  counted v over s = ap (λ m. maps.contains_key m s) over.start.subjects.maximum ∙ tied.known s

  named_subject : (v : State) → IsOver start v → (s : ℕ) → is_subject v s ≡ true → IsNamedSubject names s
  named_subject v over s is =
      let same : nat_lt s (length names.subjects) ≡ true = sym (counted v over s) ∙ is in
      (grind (arith, nat_tests, same), known_few names start tied few v over s is)

  parent_within : (v : State) → IsOver start v → (o : ℕ) (p : Option ℕ) → maps.get v.parent o ≡ p → IfSome p (λ q. q < MAX_OBJECTS)
  parent_within v over o None e = tt
  parent_within v over o (Some q) e = active_few names start tied few v over q (over.tree.objects.children_active o q e).1

  within : (v : State) → IsOver start v → (row : Row) → IsRowOf v row → IsWithin names row
  within v over (Kind p) is = tt
  within v over (Next n) is =
      let small : v.next ≤ 4096 = over.tree.next.few in
      omega (arith, is, small)
  within v over (Subject s m c i t) is =
      let bounded = over.labels.subjects s in (
        named_subject v over s (ap is_some is.0),
        in_security names start tied few v over m (from_some (λ l. IsTrue (has_label v.security l)) (maps.get v.maximum s) m is.0 bounded.maximum),
        in_security names start tied few v over c (from_some (λ l. IsTrue (has_label v.security l)) (maps.get v.current s) c is.1 bounded.current),
        in_integrity names start tied few v over i (from_some (λ l. IsTrue (has_label v.integrity l)) (maps.get v.subject_integrity s) i is.2 bounded.integrity),
      )
  within v over (Object o l i p) is =
      let bounded = over.labels.objects o in (
        active_few names start tied few v over o (ap is_some is.0),
        in_security names start tied few v over l (from_some (λ k. IsTrue (has_label v.security k)) (maps.get v.object_label o) l is.0 bounded.security),
        in_integrity names start tied few v over i (from_some (λ k. IsTrue (has_label v.integrity k)) (maps.get v.object_integrity o) i is.1 bounded.integrity),
        parent_within v over o p is.2,
      )
  within v over (Triple table s o x) is =
      let known = known_triple names start tied few v over table s o x is in
      (named_subject v over s known.0, active_few names start tied few v over o known.1)

  all_within : (v : State) → IsOver start v → (rows : List Row) → Each (IsRowOf v) rows → AllWithin names rows
  all_within v over [] each = tt
  all_within v over (row ∷ rows) each = (within v over row each.0, all_within v over rows each.1)

-- lines of rows are text

ascii_cons : (b : ℕ) (xs : List ℕ) → b < 128 → IsAscii xs → IsAscii (b ∷ xs)
ascii_cons b xs small more zero = small
ascii_cons b xs small more (suc i) = more i

spaced_ascii : (t : List ℕ) (ts : List (List ℕ)) → are_seen (t ∷ ts) ≡ true → IsAscii (spaced t ts)
spaced_ascii t [] seen = label_is_ascii t (and_parts (list_all is_label_byte t) (are_seen []) seen).0
spaced_ascii t (u ∷ us) seen =
    let parts = and_parts (list_all is_label_byte t) (are_seen (u ∷ us)) seen in
    IsAscii-append t (32 ∷ spaced u us) (label_is_ascii t parts.0) (ascii_cons 32 (spaced u us) (omega arith) (spaced_ascii u us parts.1))

abbrev pub SeenLaw : Names → Type 0
SeenLaw names = (row : Row) → HasNames names → IsWithin names row → are_seen (words_of names row) ≡ true

joined_ascii : (names : Names) → HasNames names → SeenLaw names → (rows : List Row) → AllWithin names rows → IsAscii (joined names rows)
joined_ascii names has seen [] all = λ i. omega arith
joined_ascii names has seen (row ∷ rows) all =
    IsAscii-append (row_line names row) (10 ∷ joined names rows) (spaced_ascii (first_of row) (rest_of names row) (seen row has all.0))
    (ascii_cons 10 (joined names rows) (omega arith) (joined_ascii names has seen rows all.1))

-- a text of a state over a start
module _ (names : Names) (start v : State) (text : List ℕ) (of : IsTextOver names start v text) where
  pub rows_within : AllWithin names (rows_of v)
  rows_within = all_within names start of.named.tied of.named.few v of.over (rows_of v) (each_row v)

  pub rows_text : text ≡ joined names (rows_of v)
  rows_text = sym of.written ∙ state_joined names v

  pub is_text : SeenLaw names → IsUtf8 text
  is_text seen = subst IsUtf8 (sym rows_text) (IsUtf8-from_ascii (joined names (rows_of v)) (joined_ascii names of.named.has seen (rows_of v) rows_within))

  pub is_named : is_subject start 0 ≡ true → IsNamed names v
  is_named first = record {
    security = security_is names start of.named.tied of.named.few v of.over;
    integrity = integrity_is names start of.named.tied of.named.few v of.over;
    first = ap (λ m. maps.contains_key m 0) of.over.start.subjects.maximum ∙ first;
    few = known_few names start of.named.tied of.named.few v of.over;
    tree = of.over.tree;
    whole = of.over.whole;
  }

  pub all_said : (rows : StateRows) → Says (said_by rows) (rows_of v) → SaysAll v rows
  all_said = says_all v (length names.subjects) (counted names start of.named.tied of.named.few v of.over) of.named.few.subjects of.over.tree of.over.whole

-- the text of bytes
pub with_bytes : (names : Names) (start v : State) (text bytes : List ℕ) → text ≡ bytes → IsTextOver names start v bytes → IsTextOver names start v text
with_bytes names start v text bytes same of = record { named = of.named; over = of.over; written = of.written ∙ sym same }

-- what holds of a fault where a premise does
pub err_when : {T E : Type 0} (r : Result T E) (P : Type 0) (Q : E → Type 0) → IfErr r (λ e. P → Q e) → P → IfErr r Q
err_when (Ok x) P Q so is = tt
err_when (Err e) P Q so is = so is
