-- What was verified, as the page tells it.
use Rattle.std.specs.Prelude.{ℕ, List, [], ◌∷◌, codes, Option, Some, None}
use Rattle.std.specs.Borrow.{Bor}
use Rattle.mls_markup.specs.Trees.{Forest, End, Words, Line, Both, joined, plain, classed}
use Rattle.mls_markup.specs.declared.tag.Tag.TheVariants as tag
use Rattle.mls_page.specs.Sections.{on_line, listed}
use Rattle.mls_page.specs.Tables.{row, name_cell, number_cell}
use Rattle.mls_page.specs.declared.verified.Found.{Found}

-- The row of a number, and of a text. (own)
unfoldable pub number_row : List ℕ → ℕ → Forest
number_row title number = row (Both (name_cell title) (number_cell number))

unfoldable pub text_row : List ℕ → List ℕ → Forest
text_row title text = row (Both (name_cell title) (classed tag.TableCell (codes "digest") (Words text)))

-- The rows of the times of the first mark and of the last, where there are marks. (own)
unfoldable pub times_rows : Option (Bor (List ℕ) × Bor (List ℕ)) → Forest
times_rows None = End
times_rows (Some times) =
    Both (text_row (codes "Time of the first mark") times.0.now) (text_row (codes "Time of the last mark") times.1.now)

-- The rows of what marks say, where they were looked at. (own)
unfoldable pub found_rows : Option Found → Forest
found_rows None = End
found_rows (Some found) = joined (
    text_row (codes "Digest of the last mark") found.digest.now
    ∷ times_rows found.times
    ∷ number_row (codes "Entries behind the last mark") found.behind
    ∷ [])

-- Whether marks were looked at. (own)
abbrev pub marks_text : Option Found → List ℕ
marks_text None = codes " No marks were looked at."
marks_text (Some found) = codes " Each mark agrees with the journal."

-- What was verified: each reply, and each mark where they were looked at. (own)
unfoldable pub verdict : Option Found → Forest
verdict found = on_line (plain tag.Paragraph (Both
    (Words (codes "Each reply in the journal is the one that the rules give after the entries before it."))
    (Words (marks_text found))))

-- What was verified of a journal of so many entries. (own)
unfoldable pub verified_table : ℕ → Option Found → Forest
verified_table entries found = on_line (plain tag.Table (Both
    (plain tag.Caption (Words (codes "When this page was written")))
    (plain tag.TableBody
    (Both Line (Both (number_row (codes "Entries that were replayed") entries) (found_rows found))))))

-- The command that verifies it again. (own)
abbrev pub verify_command : Option Found → List ℕ
verify_command None = codes "mls replay START J"
verify_command (Some found) = codes "mls verify START J MARKS"

-- The section of what was verified. (own)
unfoldable pub verified : ℕ → Option Found → Forest
verified entries found =
    listed (codes "verified") (codes "Verified") (verify_command found)
    (Both (verdict found) (verified_table entries found))
