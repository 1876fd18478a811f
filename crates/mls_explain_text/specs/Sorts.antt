-- What the words of a line are to name.
use Rattle.std.specs.Prelude.{ℕ, Bool, ◌&&◌, not, false, List, [], ◌∷◌, Option, Some, None, is_err}
use Rattle.std.specs.List.{list_any}
use Rattle.std.specs.Str.{bytes_eq}
use Rattle.mls_labels.specs.Reading.{label_at}
use Rattle.mls_requests.specs.declared.action_word.ActionWord.TheVariants as word
use Rattle.mls_lines.specs.Words.{word_of}
use Rattle.mls_lines.specs.declared.command.Word.{Word}
use Rattle.mls_lines.specs.declared.command.Word.TheVariants.{Check, Action}
use Rattle.mls_lines.specs.declared.fault.LineFault.{LineFault}
use Rattle.mls_lines.specs.declared.fault.LineFault.TheVariants.{BadForm, UnknownName, BadLabel}
use Rattle.mls_replay.specs.Naming.{begins_with_hash}
use Rattle.mls_start_text.specs.Texts.{SaidFile, subject_names, object_names}
use Rattle.mls_explain_text.specs.declared.sort.Sort.{Sort}
use Rattle.mls_explain_text.specs.declared.sort.Sort.TheVariants.{Plain, Subject, Object, Security, Integrity}

-- What the words of a line are to name whose second word is this one: nothing of the start where it is `Plain`. (own)
abbrev pub sorts_by : Option Word → List Sort
sorts_by None = []
-- `SUBJ check MODE OBJ`
sorts_by (Some Check) = Subject ∷ Plain ∷ Plain ∷ Object ∷ []
-- `SUBJ get-MODE OBJ`
sorts_by (Some (Action (word.Get x))) = Subject ∷ Plain ∷ Object ∷ []
-- `SUBJ release MODE OBJ`
sorts_by (Some (Action word.Release)) = Subject ∷ Plain ∷ Plain ∷ Object ∷ []
-- `SUBJ give MODE SUBJ OBJ`
sorts_by (Some (Action word.Give)) = Subject ∷ Plain ∷ Plain ∷ Subject ∷ Object ∷ []
-- `SUBJ rescind MODE SUBJ OBJ`
sorts_by (Some (Action word.Rescind)) = Subject ∷ Plain ∷ Plain ∷ Subject ∷ Object ∷ []
-- `SUBJ create OBJ LABEL LABEL`
sorts_by (Some (Action word.Create)) = Subject ∷ Plain ∷ Object ∷ Security ∷ Integrity ∷ []
-- `SUBJ delete OBJ`
sorts_by (Some (Action word.Delete)) = Subject ∷ Plain ∷ Object ∷ []
-- `SUBJ level LABEL`
sorts_by (Some (Action word.Level)) = Subject ∷ Plain ∷ Security ∷ []
-- `SUBJ relabel OBJ LABEL`
sorts_by (Some (Action word.Relabel)) = Subject ∷ Plain ∷ Object ∷ Security ∷ []

-- What the words of a line are to name. (own)
abbrev pub sorts_in : List (List ℕ) → List Sort
sorts_in [] = []
sorts_in (subject ∷ []) = []
sorts_in (subject ∷ w ∷ operands) = sorts_by (word_of w)

-- A word is none of these names, and begins with no `#`. (own)
abbrev pub is_unknown : List (List ℕ) → List ℕ → Bool
is_unknown names w = not (begins_with_hash w) && not (list_any (bytes_eq w) names)

-- A word is to name a subject or an object, and names none. (own)
abbrev pub is_unnamed : SaidFile → Sort → List ℕ → Bool
is_unnamed file Plain w = false
is_unnamed file Subject w = is_unknown (subject_names file) w
is_unnamed file Object w = is_unknown (object_names file) w
is_unnamed file Security w = false
is_unnamed file Integrity w = false

-- A word is to be a label, and is the text of none in its scheme. (own)
abbrev pub is_unspelled : SaidFile → Sort → List ℕ → Bool
is_unspelled file Plain w = false
is_unspelled file Subject w = false
is_unspelled file Object w = false
is_unspelled file Security w = is_err (label_at file.security w)
is_unspelled file Integrity w = is_err (label_at file.integrity w)

-- A word is one for which a line has a fault. (own)
abbrev pub is_wrong : SaidFile → LineFault → Sort → List ℕ → Bool
is_wrong file BadForm sort w = false
is_wrong file UnknownName sort w = is_unnamed file sort w
is_wrong file BadLabel sort w = is_unspelled file sort w
