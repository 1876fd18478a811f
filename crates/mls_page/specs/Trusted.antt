-- Whom trust alone granted something, as the page tells it.
use Rattle.std.specs.Prelude.{ℕ, ◌==◌, List, [], ◌∷◌, codes, if◌then◌else◌, length, max}
use Rattle.std.specs.List.{fold}
use Rattle.mls_lines.specs.Names.{Names}
use Rattle.mls_markup.specs.Trees.{Forest, Both, all_of}
use Rattle.mls_wording.specs.Wording.{subject_text}
use Rattle.mls_page.specs.Sections.{listed, paragraph}
use Rattle.mls_page.specs.Tables.{column, name_cell, row, share_cell, table}
use Rattle.mls_page.specs.declared.trusted.Trusting.{Trusting}

-- The greatest count of some rows. (own)
abbrev pub most_of : List Trusting → ℕ
most_of rows = fold (λ most t. max t.count most) 0 rows

-- The row of a subject: its name, and how often trust alone granted what it asked, with a bar. (own)
unfoldable pub trust_row : Names → ℕ → Trusting → Forest
trust_row names units t =
    row (Both (name_cell (subject_text names t.subject)) (share_cell (codes "bar granted") units t.count))

-- The table of subjects, in the order of the rows. (own)
unfoldable pub trust_filled : Names → List Trusting → Forest
trust_filled names rows = table (codes "Denied, if the subject were not trusted")
    (all_of column (codes "Subject" ∷ codes "Granted by trust alone" ∷ []))
    (all_of (trust_row names (most_of rows)) rows)

-- The table; without a row, that there is none. (own)
abbrev pub trust_table : Names → List Trusting → Forest
trust_table names rows =
    if length rows == 0 then paragraph (codes "No entry was granted by trust alone.") else trust_filled names rows

-- The section of trust. (own)
unfoldable pub trust : Names → List Trusting → Forest
trust names rows =
    listed (codes "trust") (codes "Trust") (codes "mls journal --used-trust START J") (trust_table names rows)
