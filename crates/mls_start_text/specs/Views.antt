-- What contracts see of the texts that the program borrows from a tree: the texts, and not where they lie.
use Rattle.std.specs.Prelude.{ℕ, List, [], map, unwrap_or}
use Rattle.serde_json.specs.Find.{as_str}
use Rattle.serde_json.specs.View.{view}
use Rattle.serde_json.specs.declared.value.Value.{Value}
use Rattle.mls_labels.specs.Scheme.{Scheme}
use Rattle.mls_start_text.specs.Texts.{SaidSubject, SaidObject, SaidChild, SaidCell, SaidFile}
use Rattle.mls_start_text.specs.declared.cell_text.CellText.{CellText}
use Rattle.mls_start_text.specs.declared.file_text.FileText.{FileText}
use Rattle.mls_start_text.specs.declared.object_text.ObjectText.{ObjectText}
use Rattle.mls_start_text.specs.declared.object_text.ChildText.{ChildText}
use Rattle.mls_start_text.specs.declared.scheme_text.SchemeText.{SchemeText}
use Rattle.mls_start_text.specs.declared.subject_text.SubjectText.{SubjectText}

-- A scheme's names. (own)
abbrev pub scheme_view : SchemeText → Scheme
scheme_view s = record { levels = map (λ t. t.now) s.levels.items; categories = map (λ t. t.now) s.categories.items }

-- A subject. (own)
abbrev pub subject_view : SubjectText → SaidSubject
subject_view s =
    record {
      name = s.name.now;
      maximum = s.maximum.now;
      current = s.current.now;
      integrity = s.integrity.now;
      trusted =
          s.trusted;
    }

-- An object. (own)
abbrev pub object_view : ObjectText → SaidObject
object_view o = record { name = o.name.now; security = o.security.now; integrity = o.integrity.now }

-- An object below the root. (own)
abbrev pub child_view : ChildText → SaidChild
child_view c = record { parent = c.parent.now; object = object_view c.object }

-- The text that a value is; a value of another type is seen as the empty text. (own)
abbrev pub text_view : Value → List ℕ
text_view v = unwrap_or (as_str (view v)) []

-- A cell. (own)
abbrev pub cell_view : CellText → SaidCell
cell_view c = record { subject = c.subject.now; object = c.object.now; modes = map text_view c.modes.now }

-- A start file. (own)
abbrev pub file_view : FileText → SaidFile
file_view file = record {
  profile = file.profile;
  security = scheme_view file.security;
  integrity = scheme_view file.integrity;
  subjects = map subject_view file.subjects.items;
  root = object_view file.root;
  children = map child_view file.children.items;
  cells = map cell_view file.cells.items;
  accesses = map cell_view file.accesses.items;
}
