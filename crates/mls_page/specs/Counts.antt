-- How many entries there are, as the page tells it: denied by reason, and all by the subject that asked.
use Rattle.std.specs.Prelude.{◌≡◌, ℕ, ◌+◌, ◌==◌, List, [], ◌∷◌, codes, length, map, max, if◌then◌else◌}
use Rattle.std.specs.List.{fold, sum_by}
use Rattle.mls_groups.specs.Weights.{IsByWeight}
use Rattle.mls_lines.specs.Names.{Names}
use Rattle.mls_listings.specs.declared.reason_count.ReasonCount.{ReasonCount}
use Rattle.mls_listings.specs.declared.reply_count.ReplyCount.{ReplyCount}
use Rattle.mls_markup.specs.Drafts.{Draft, added}
use Rattle.mls_markup.specs.Trees.{Forest, End, Both, all_of, joined}
use Rattle.mls_page.specs.Gets.{capped, titled}
use Rattle.mls_page.specs.Runs.{runs_by}
use Rattle.mls_page.specs.Sections.{listed}
use Rattle.mls_page.specs.Shown.{in_tables, shown_at}
use Rattle.mls_page.specs.Tables.{column, name_cell, row, share_cell, table}
use Rattle.mls_page.specs.declared.share.Share.{Share}
use Rattle.mls_page.specs.declared.share.Sums.{Sums}
use Rattle.mls_requests.specs.ReasonWords.{reason_word}
use Rattle.mls_requests.specs.declared.reply_word.ReplyWord.{ReplyWord}
use Rattle.mls_requests.specs.declared.reply_word.ReplyWord.TheVariants.{Yes, Created, No, Undefined}
use Rattle.mls_wording.specs.Wording.{subject_text}

-- The greatest count of some reasons. (own)
abbrev pub most_denied : List ReasonCount → ℕ
most_denied rows = fold (λ most r. max r.entries most) 0 rows

-- The row of a reason: how often something was denied for it, with a bar. (own)
unfoldable pub reason_row : ℕ → ReasonCount → Forest
reason_row units r = row (Both (name_cell (reason_word r.reason)) (share_cell (codes "bar denied") units r.entries))

-- The table of reasons. (own)
unfoldable pub reason_filled : List ReasonCount → Forest
reason_filled rows = table (codes "Denied, by reason") (all_of column (codes "Reason" ∷ codes "Denied" ∷ []))
    (all_of (reason_row (most_denied rows)) rows)

-- It, where there are reasons. (own)
abbrev pub reason_table : List ReasonCount → Forest
reason_table rows = if length rows == 0 then End else reason_filled rows

-- How many replies of a first word grant, deny, or are undefined. (own)
abbrev pub if_granted : ReplyWord → ℕ → ℕ
if_granted Yes n = n
if_granted Created n = n
if_granted No n = 0
if_granted Undefined n = 0

abbrev pub if_denied : ReplyWord → ℕ → ℕ
if_denied Yes n = 0
if_denied Created n = 0
if_denied No n = n
if_denied Undefined n = 0

abbrev pub if_undefined : ReplyWord → ℕ → ℕ
if_undefined Yes n = 0
if_undefined Created n = 0
if_undefined No n = 0
if_undefined Undefined n = n

-- Whose a count is, and whose those of a run are. (own)
abbrev pub asker : ReplyCount → ℕ
asker r = r.subject

abbrev pub asker_of : List ReplyCount → ℕ
asker_of [] = 0
asker_of (r ∷ rows) = asker r

-- How many requests of a subject were granted, denied, or undefined. (own)
abbrev pub share_of : List ReplyCount → Share
share_of rows = record {
  subject = asker_of rows;
  granted = capped (sum_by (λ r. if_granted r.word r.entries) rows);
  denied = capped (sum_by (λ r. if_denied r.word r.entries) rows);
  undefined = capped (sum_by (λ r. if_undefined r.word r.entries) rows);
}

-- How many of each subject: the counts of a subject stand together. (own)
abbrev pub shares : List ReplyCount → List Share
shares rows = map share_of (runs_by asker rows)

-- How many requests of a subject there are. (own)
abbrev pub requests_of : Share → ℕ
requests_of s = capped (s.granted + s.denied + s.undefined)

-- The greatest number of some shares. (own)
abbrev pub greatest_of : List Share → ℕ
greatest_of rows = fold (λ most s. max (max (max s.granted s.denied) s.undefined) most) 0 rows

-- The sums of some shares. (own)
abbrev pub sums_of : List Share → Sums
sums_of rows = record {
  granted = capped (sum_by (λ s. s.granted) rows);
  denied = capped (sum_by (λ s. s.denied) rows);
  undefined = capped (sum_by (λ s. s.undefined) rows);
}

-- The cell of a number with a bar, where its column has something but zeros. (own)
abbrev pub share_where : ℕ → List ℕ → ℕ → ℕ → Forest
share_where sum colour units number = if sum == 0 then End else share_cell colour units number

-- The row of a subject. (own)
unfoldable pub share_row : Names → Sums → ℕ → Share → Forest
share_row names sums units s = row (joined (
    name_cell (subject_text names s.subject)
    ∷ share_where sums.granted (codes "bar granted") units s.granted
    ∷ share_where sums.denied (codes "bar denied") units s.denied
    ∷ share_where sums.undefined (codes "bar undefined") units s.undefined
    ∷ []))

-- The headings of its columns. (own)
abbrev pub share_titles : Sums → List (List ℕ)
share_titles sums =
    codes "Subject"
    ∷ titled (codes "Granted") sums.granted
    ∷ titled (codes "Denied") sums.denied
    ∷ titled (codes "Undefined") sums.undefined
    ∷ []

-- The table of the subjects at some places. (own)
unfoldable pub share_table : Names → List Share → List ℕ → Forest
share_table names rows places =
    table (codes "By the subject that asked") (all_of column (share_titles (sums_of rows)))
    (all_of (shown_at (share_row names (sums_of rows) (greatest_of rows)) rows) places)

-- The tables of subjects in an order, where there are such. (own)
abbrev pub share_tables : Names → List Share → List ℕ → Forest
share_tables names rows places =
    if length rows == 0 then End
    else in_tables (codes "mls journal --summary START J") (share_table names rows) places

-- The section of how many entries there are, with these rows of subjects in an order. (own)
unfoldable pub counts : Names → List ReasonCount → List Share → List ℕ → Forest
counts names reasons rows places =
    listed (codes "counts") (codes "Entries") (codes "mls journal --summary START J")
    (Both (reason_table reasons) (share_tables names rows places))

-- The section is appended with these rows of subjects, in an order by how many requests they made. (own)
pub record ShowsShares (names : Names) (reasons : List ReasonCount) (rows : List Share) (old new : Draft) : Type 0 where
  pub places : List ℕ
  pub in_order : IsByWeight (map requests_of rows) places
  pub is : new ≡ added old (counts names reasons rows places)

-- The section is appended, for the counts of reasons and of replies. (own)
abbrev pub HasCounts : Names → List ReasonCount → List ReplyCount → Draft → Draft → Type 0
HasCounts names reasons replies old new = ShowsShares names reasons (shares replies) old new
