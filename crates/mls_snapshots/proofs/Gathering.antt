-- Lines that are read one by one, and what is said with each.
use Rattle.std.proofs.Common.{◌≡◌, ℕ, zero, suc, ◌<◌, true, List, [], ◌∷◌, ◌++◌, length, get_or, Option, Some, None, refl, sym, ap, ◌∙◌, arith}
use Rattle.std.specs.List.{list_all}
use Rattle.std.proofs.lemmas.Bool.{and_parts}
use Rattle.std.proofs.lemmas.Option.{same_Some}
use Rattle.mls_lines.specs.Labels.{is_label_byte}
use Rattle.mls_lines.specs.Names.{Names}
use Rattle.mls_state.specs.declared.table.Table.TheVariants.{Matrix, Accesses}
use Rattle.mls_wording.specs.ReadBack.{HasNames}
use Rattle.mls_snapshots.specs.declared.state_line.StateLine.{StateLine}
use Rattle.mls_snapshots.specs.Gathering.{Said, with_line, with_rows}
use Rattle.mls_snapshots.specs.LineReading.{front, behind}
use Rattle.mls_snapshots.specs.Rows.{are_seen, Row, Kind, Next, Subject, Object, Triple, spaced, first_of, rest_of, words_of, row_line, said_of, IsWithin, AllWithin, joined}
use Rattle.mls_snapshots.proofs.Cuts.{Lacks, lacks_seen, front_at, behind_at}

-- where nothing stands in a list, nothing does with one nothing more
pub none_more : {X : Type 0} (xs : List (Option X)) → ((o : ℕ) → get_or xs o None ≡ None) → (o : ℕ) → get_or (xs ++ None ∷ []) o None ≡ None
none_more [] none zero = refl
none_more [] none (suc o) = refl
none_more (x ∷ xs) none zero = none 0
none_more (x ∷ xs) none (suc o) = none_more xs (λ k. none (suc k)) o

-- no newline stands in words that are seen, nor between them

lacks_cons : (c b : ℕ) (text : List ℕ) → (b ≡ c → ⊥) → Lacks c text → Lacks c (b ∷ text)
lacks_cons c b text apart lacks zero below = apart
lacks_cons c b text apart lacks (suc i) below = lacks i (omega (arith, below))

lacks_append : (c : ℕ) (text rest : List ℕ) → Lacks c text → Lacks c rest → Lacks c (text ++ rest)
lacks_append c [] rest first second = second
lacks_append c (b ∷ text) rest first second =
    lacks_cons c b (text ++ rest) (first 0 (omega arith)) (lacks_append c text rest (λ i below. first (suc i) (omega (arith, below))) second)

lacks_newline : (t : List ℕ) (ts : List (List ℕ)) → are_seen (t ∷ ts) ≡ true → Lacks 10 (spaced t ts)
lacks_newline t [] seen = lacks_seen 10 refl t (and_parts (list_all is_label_byte t) (are_seen []) seen).0
lacks_newline t (u ∷ us) seen =
    let parts = and_parts (list_all is_label_byte t) (are_seen (u ∷ us)) seen in
    lacks_append 10 t (32 ∷ spaced u us) (lacks_seen 10 refl t parts.0) (lacks_cons 10 32 (spaced u us) (λ e. absurd (omega (arith, e))) (lacks_newline u us parts.1))

-- no line is empty

some_spaced : (t : List ℕ) (ts : List (List ℕ)) → 0 < length t → 0 < length (spaced t ts)
some_spaced [] ts some = absurd (omega (arith, some))
some_spaced (b ∷ t) [] some = omega arith
some_spaced (b ∷ t) (u ∷ us) some = omega arith

some_first : (row : Row) → 0 < length (first_of row)
some_first (Kind p) = omega arith
some_first (Next n) = omega arith
some_first (Subject s m c i t) = omega arith
some_first (Object o l i p) = omega arith
some_first (Triple Matrix s o x) = omega arith
some_first (Triple Accesses s o x) = omega arith

front_none : front 10 [] ≡ []
unfolding front
front_none = refl

module _ (names : Names) where
  -- Of some rows these are left: what was said with them more is what the first rows say.
  pub record Left (rows : List Row) (whole : Said) (text : List ℕ) (now : Said) : Type 0 where
    pub rest : List Row
    pub within : AllWithin names rest
    pub text_is : text ≡ joined names rest
    pub said : with_rows now rest ≡ with_rows whole rows

  abbrev pub Lines : List ℕ → Said → List ℕ → Said → Type 0
  Lines all whole text now = (rows : List Row) → HasNames names → AllWithin names rows → all ≡ joined names rows → Left rows whole text now

  pub begin : (all : List ℕ) (whole : Said) → Lines all whole all whole
  begin all whole = λ rows has within is. record { rest = rows; within = within; text_is = is; said = refl }

module _ (names : Names) (seen : (row : Row) → HasNames names → IsWithin names row → are_seen (words_of names row) ≡ true) where
  some_line : (row : Row) → 0 < length (row_line names row)
  some_line row = some_spaced (first_of row) (rest_of names row) (some_first row)

  line_front : (row : Row) (more : List ℕ) → HasNames names → IsWithin names row → front 10 (row_line names row ++ 10 ∷ more) ≡ row_line names row
  line_front row more has within = front_at 10 (row_line names row) more (lacks_newline (first_of row) (rest_of names row) (seen row has within))

  line_behind : (row : Row) (more : List ℕ) → HasNames names → IsWithin names row → behind 10 (row_line names row ++ 10 ∷ more) ≡ more
  line_behind row more has within = behind_at 10 (row_line names row) more (lacks_newline (first_of row) (rest_of names row) (seen row has within))

  empty_front : (text line : List ℕ) → text ≡ [] → line ≡ front 10 text → line ≡ []
  empty_front text line is front_is = front_is ∙ ap (front 10) is ∙ front_none

  row_front : (text line : List ℕ) (row : Row) (more : List Row) → HasNames names → IsWithin names row → text ≡ joined names (row ∷ more) → line ≡ front 10 text → line ≡ row_line names row
  row_front text line row more has within is front_is = front_is ∙ ap (front 10) is ∙ line_front row (joined names more) has within

  step_left : (rows rest : List Row) (text line others : List ℕ) (whole now next : Said) (said : StateLine) (r : Option StateLine) → HasNames names → AllWithin names rest
      → text ≡ joined names rest → with_rows now rest ≡ with_rows whole rows → line ≡ front 10 text → others ≡ behind 10 text → 0 < length line
      → ((row : Row) → HasNames names → IsWithin names row → line ≡ row_line names row → r ≡ Some (said_of row)) → r ≡ Some said → next ≡ with_line now said → Left names rows whole others next
  step_left rows [] text line others whole now next said r has within is says front_is behind_is some read is_some next_is =
      let none : line ≡ [] = empty_front text line is front_is in
      absurd (omega (arith, some, ap length none))
  step_left rows (row ∷ more) text line others whole now next said r has within is says front_is behind_is some read is_some next_is =
      let same : said ≡ said_of row = same_Some said (said_of row) (sym is_some ∙ read row has within.0 (row_front text line row more has within.0 is front_is)) in
      record {
        rest = more;
        within = within.1;
        text_is = behind_is ∙ ap (behind 10) is ∙ line_behind row (joined names more) has within.0;
        said = ap (λ s. with_rows s more) (next_is ∙ ap (with_line now) same) ∙ says;
      }

  pub step : (all text line others : List ℕ) (whole now next : Said) (said : StateLine) (r : Option StateLine) → Lines names all whole text now
      → line ≡ front 10 text → others ≡ behind 10 text → 0 < length line
      → ((row : Row) → HasNames names → IsWithin names row → line ≡ row_line names row → r ≡ Some (said_of row)) → r ≡ Some said → next ≡ with_line now said → Lines names all whole others next
  step all text line others whole now next said r lines front_is behind_is some read is_some next_is = λ rows has within is.
      let left = lines rows has within is in
      step_left rows left.rest text line others whole now next said r has left.within left.text_is left.said front_is behind_is some read is_some next_is

  end_left : (rows rest : List Row) (text line : List ℕ) (whole now : Said) → HasNames names → AllWithin names rest
      → text ≡ joined names rest → with_rows now rest ≡ with_rows whole rows → line ≡ front 10 text → length line ≡ 0 → now ≡ with_rows whole rows
  end_left rows [] text line whole now has within is says front_is none = says
  end_left rows (row ∷ more) text line whole now has within is says front_is none =
      let same : line ≡ row_line names row = row_front text line row more has within.0 is front_is in
      let some : 0 < length (row_line names row) = some_line row in
      absurd (omega (arith, some, none, ap length same))

  -- where a line is empty, no rows are left
  pub end : (all text line : List ℕ) (whole now : Said) → Lines names all whole text now → line ≡ front 10 text → length line ≡ 0
      → (rows : List Row) → HasNames names → AllWithin names rows → all ≡ joined names rows → now ≡ with_rows whole rows
  end all text line whole now lines front_is none = λ rows has within is.
      let left = lines rows has within is in
      end_left rows left.rest text line whole now has left.within left.text_is left.said front_is none

  unread_left : (rest : List Row) (text line : List ℕ) (r : Option StateLine) → HasNames names → AllWithin names rest
      → text ≡ joined names rest → line ≡ front 10 text → 0 < length line
      → ((row : Row) → HasNames names → IsWithin names row → line ≡ row_line names row → r ≡ Some (said_of row)) → r ≡ None → ⊥
  unread_left [] text line r has within is front_is some read none =
      let empty : line ≡ [] = empty_front text line is front_is in
      omega (arith, some, ap length empty)
  unread_left (row ∷ more) text line r has within is front_is some read none =
      let no : None ≡ Some (said_of row) = sym none ∙ read row has within.0 (row_front text line row more has within.0 is front_is) in
      cc

  -- no line of rows is refused
  pub unread : (all text line : List ℕ) (whole now : Said) (r : Option StateLine) → Lines names all whole text now → line ≡ front 10 text → 0 < length line
      → ((row : Row) → HasNames names → IsWithin names row → line ≡ row_line names row → r ≡ Some (said_of row)) → r ≡ None
      → (rows : List Row) → HasNames names → AllWithin names rows → all ≡ joined names rows → ⊥
  unread all text line whole now r lines front_is some read none = λ rows has within is.
      let left = lines rows has within is in
      unread_left left.rest text line r has left.within left.text_is front_is some read none
