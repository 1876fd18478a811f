-- Names and label texts that C lends, and the texts that it is given.
use Rattle.std.specs.Prelude.{◌≡◌, ◌⊎◌, ℕ, ℤ, ◌++◌, ◌==◌, nat_lt, List, length, drop, Option, Some, None}
use Rattle.std.specs.Prelude.{option_map, IsSomeAnd, if◌then◌else◌}
use Rattle.std.specs.Result.{result_ok}
use Rattle.std.specs.Str.{is_utf8}
use Rattle.mls_labels.specs.Label.{Label, has_label}
use Rattle.mls_labels.specs.LabelText.{written}
use Rattle.mls_labels.specs.Reading.{label_at, place_of}
use Rattle.mls_labels.specs.Scheme.{Scheme, bounds_of}
use Rattle.mls_journal.specs.EntryText.{entry_line}
use Rattle.mls_lines.specs.Names.{Names}
use Rattle.mls_start_text.specs.Each.{having}
use Rattle.mls_c.specs.Labels.{label_of, numbers_of_label}
use Rattle.mls_c.specs.Opened.{Opened, kept_entry}
use Rattle.mls_c.specs.declared.label.LabelNumbers.{LabelNumbers}
use Rattle.mls_c.specs.declared.status.TheConstants.{OK, ECLOSED, ENOMEM, EINVAL, ERANGE, ENOTFOUND}

-- The text of bytes, where they are UTF-8. (own)
abbrev pub text_in : List ℕ → Option (List ℕ)
text_in bytes = if is_utf8 bytes then Some bytes else None

-- The number of a name among these, where it is one of them. (own)
abbrev pub name_in : List (List ℕ) → List ℕ → Option ℕ
name_in names bytes = having (text_in bytes) (place_of names)

-- What looking up a name returns. (own)
abbrev pub found_status : Option ℕ → ℤ
found_status None = ENOTFOUND
found_status (Some n) = OK

-- The number of a subject's name. (own)
abbrev pub subject_named : Option Opened → List ℕ → Option ℕ
subject_named old name = having old (λ v. name_in v.names.subjects name)

-- The number of an object's name. (own)
abbrev pub object_named : Option Opened → List ℕ → Option ℕ
object_named old name = having old (λ v. name_in v.names.objects name)

-- What a call that needs an open monitor returns: this of the monitor, or that there is none. (own)
abbrev pub status_if_open : Option Opened → (Opened → ℤ) → ℤ
status_if_open None status = ECLOSED
status_if_open (Some v) status = status v

-- The scheme of a kind of labels: 0 for security, 1 for integrity. (own)
abbrev pub scheme_of : Names → ℕ → Option Scheme
scheme_of names kind = if kind == 0 then Some names.security else if kind == 1 then Some names.integrity else None

-- The label that a text spells in a scheme, where it spells one. (own)
abbrev pub label_spelled : Option Scheme → List ℕ → Option Label
label_spelled scheme bytes = having scheme (λ s. having (text_in bytes) (λ text. result_ok (label_at s text)))

-- What reading a label returns. (own)
abbrev pub spelled_status : Option Label → ℤ
spelled_status None = EINVAL
spelled_status (Some l) = OK

-- The text of a label in a scheme that has it. (own)
abbrev pub text_in_scheme : Scheme → Label → Option (List ℕ)
text_in_scheme s l = if has_label (bounds_of s) l then Some (written s l) else None

-- The text of a label of numbers in a scheme, where they are a label that it has. (own)
abbrev pub label_written : Option Scheme → LabelNumbers → Option (List ℕ)
label_written scheme numbers = having scheme (λ s. having (label_of numbers) (text_in_scheme s))

-- The line of an entry of the journal, where it has one of this number that isn't forgotten. (own)
abbrev pub line_of : Opened → ℕ → Option (List ℕ)
line_of v n = option_map entry_line (kept_entry v n)

-- What copying a text into a buffer of so many bytes returns: that it is there, or that the buffer is too short; or
-- there is no memory. (own)
abbrev pub TextStatus : List ℕ → ℕ → ℤ → Type 0
TextStatus text room status = (status ≡ (if nat_lt room (length text) then ERANGE else OK)) ⊎ (status ≡ ENOMEM)

-- What a call that copies out a text returns, where there is one; else this. (own)
abbrev pub StatusOfText : ℤ → Option (List ℕ) → ℕ → ℤ → Type 0
StatusOfText other None room status = status ≡ other
StatusOfText other (Some text) room status = TextStatus text room status

-- What copying out an entry's line returns. (own)
abbrev pub LineStatus : Option Opened → ℕ → ℕ → ℤ → Type 0
LineStatus None n room status = status ≡ ECLOSED
LineStatus (Some v) n room status = StatusOfText ENOTFOUND (line_of v n) room status

-- What copying out a label's text returns. (own)
abbrev pub LabelTextStatus : Option Opened → ℕ → LabelNumbers → ℕ → ℤ → Type 0
LabelTextStatus None kind numbers room status = status ≡ ECLOSED
LabelTextStatus (Some v) kind numbers room status =
    StatusOfText EINVAL (label_written (scheme_of v.names kind) numbers) room status

-- A text lies at the front of a buffer, and what stands after it is as before. (own)
abbrev pub LiesIn : Option (List ℕ) → List ℕ → List ℕ → Type 0
LiesIn text old new = IsSomeAnd text (λ t. new ≡ t ++ drop (length t) old)

-- A text has this length. (own)
abbrev pub HasLength : Option (List ℕ) → ℕ → Type 0
HasLength text len = IsSomeAnd text (λ t. len ≡ length t)

-- These are the numbers of a label. (own)
abbrev pub HasLabel : Option Label → LabelNumbers → Type 0
HasLabel label numbers = IsSomeAnd label (λ l. numbers ≡ numbers_of_label l)
