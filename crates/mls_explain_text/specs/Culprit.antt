-- The first word of a line for which it has its fault, and what is written of it.
use Rattle.std.specs.Prelude.{ℕ, ◌==◌, List, [], ◌∷◌, ◌++◌, codes, if◌then◌else◌}
use Rattle.std.specs.List.{list_any, slice_split}
use Rattle.std.specs.Str.{bytes_eq}
use Rattle.mls_labels.specs.Scheme.{Scheme}
use Rattle.mls_lines.specs.Tokens.{tokens_of}
use Rattle.mls_lines.specs.declared.fault.LineFault.{LineFault}
use Rattle.mls_start_text.specs.Texts.{SaidFile, subject_names, object_names}
use Rattle.mls_explain_text.specs.Nearest.{meant_text, nearest}
use Rattle.mls_explain_text.specs.Sorts.{sorts_in, is_wrong}
use Rattle.mls_explain_text.specs.declared.sort.Sort.{Sort}
use Rattle.mls_explain_text.specs.declared.sort.Sort.TheVariants.{Plain, Subject, Object, Security, Integrity}

-- What is written behind words of which one is none of the names: the nearest of them to the first such word. (own)
abbrev pub first_meant : List (List ℕ) → List (List ℕ) → List ℕ
first_meant names [] = []
first_meant names (w ∷ words) =
    if list_any (bytes_eq w) names then first_meant names words else meant_text (nearest w names)

-- The categories of what stands behind the colon of a label. (own)
abbrev pub categories_in : List (List ℕ) → List (List ℕ)
categories_in [] = []
categories_in (part ∷ parts) = slice_split (λ b. b == 44) part

-- What is written behind a label, by its parts between colons: the nearest level to the first part where that is none,
-- else the nearest category to the first that is none. (own)
abbrev pub label_meant : Scheme → List (List ℕ) → List ℕ
label_meant s [] = []
label_meant s (level ∷ parts) =
    if list_any (bytes_eq level) s.levels then first_meant s.categories (categories_in parts)
    else meant_text (nearest level s.levels)

-- What is written behind a word that isn't what it is to be: the nearest of the names that can stand there. (own)
abbrev pub meant_by : SaidFile → Sort → List ℕ → List ℕ
meant_by file Plain w = []
meant_by file Subject w = meant_text (nearest w (subject_names file))
meant_by file Object w = meant_text (nearest w (object_names file))
meant_by file Security w = label_meant file.security (slice_split (λ b. b == 58) w)
meant_by file Integrity w = label_meant file.integrity (slice_split (λ b. b == 58) w)

-- What is written of a word that isn't what it is to be. (own)
abbrev pub wrong_text : SaidFile → Sort → List ℕ → List ℕ
wrong_text file sort w = codes ": " ++ (w ++ meant_by file sort w)

-- What is written of the first of some words, with what they are to be, for which a line has its fault. (own)
abbrev pub culprit_text : SaidFile → LineFault → List Sort → List (List ℕ) → List ℕ
culprit_text file fault [] words = []
culprit_text file fault (sort ∷ sorts) [] = []
culprit_text file fault (sort ∷ sorts) (w ∷ words) =
    if is_wrong file fault sort w then wrong_text file sort w else culprit_text file fault sorts words

-- The same of a line. (own)
abbrev pub culprit_of : SaidFile → LineFault → List ℕ → List ℕ
culprit_of file fault line = culprit_text file fault (sorts_in (tokens_of line)) (tokens_of line)
