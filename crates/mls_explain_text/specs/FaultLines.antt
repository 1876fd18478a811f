-- The lines that tell of a word of a question that names nothing.
use Rattle.std.specs.Prelude.{ℕ, List, [], ◌++◌, codes, option_map, unwrap_or}
use Rattle.serde_json.specs.Data.{Data}
use Rattle.mls_lines.specs.Fault.{fault_text}
use Rattle.mls_lines.specs.declared.fault.LineFault.{LineFault}
use Rattle.mls_start_text.specs.Texts.{SaidFile, file_of, subject_names, object_names}
use Rattle.mls_explain_text.specs.Culprit.{meant_by, culprit_of}
use Rattle.mls_explain_text.specs.Nearest.{meant_text, nearest}
use Rattle.mls_explain_text.specs.declared.sort.Sort.{Sort}

-- The line of a word that is to name a subject or an object, and names none. (own)
abbrev pub word_line : Sort → List ℕ → SaidFile → List ℕ
word_line sort word file = codes "mls: " ++ (word ++ (codes ": bad name" ++ meant_by file sort word))

-- The names that a word can stand for that is to name a subject or else an object. (own)
abbrev pub thing_names : SaidFile → List (List ℕ)
thing_names file = subject_names file ++ object_names file

-- The line of a word that is to name a subject or else an object, and names neither. (own)
abbrev pub thing_line : List ℕ → SaidFile → List ℕ
thing_line word file = codes "mls: " ++ (word ++ (codes ": bad name" ++ meant_text (nearest word (thing_names file))))

-- The line of a script line that has a fault. (own)
abbrev pub fault_line : List ℕ → LineFault → SaidFile → List ℕ
fault_line line fault file = codes "mls: line: " ++ (fault_text fault ++ culprit_of file fault line)

-- What is written of a tree by its file: nothing where it hasn't the members of one. (own)
abbrev pub by_file : (SaidFile → List ℕ) → Data → List ℕ
by_file told d = unwrap_or (option_map told (file_of d)) []
