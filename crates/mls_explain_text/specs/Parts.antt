-- The parts of a line, as the grammar has them, by what its words are to name.
use Rattle.std.specs.Prelude.{ℕ, List, [], ◌∷◌}
use Rattle.mls_lines.specs.Forms.{Form, Empty, Note, Check, Get, Release, Give, Rescind, Create, Bind, Delete, Level}
use Rattle.mls_lines.specs.Forms.{Relabel, Part}
use Rattle.mls_lines.specs.Forms as part
use Rattle.mls_explain_text.specs.declared.sort.Sort.{Sort}
use Rattle.mls_explain_text.specs.declared.sort.Sort.TheVariants.{Plain, Subject, Object, Security, Integrity}

-- A line of this form can be asked as a question: it asks something and binds nothing. (own)
abbrev pub IsAsked : Form → Type 0
IsAsked Empty = ⊥
IsAsked (Note note rest) = ⊥
IsAsked (Check subj x obj) = Unit {0}
IsAsked (Get subj x obj) = Unit {0}
IsAsked (Release subj x obj) = Unit {0}
IsAsked (Give subj x to obj) = Unit {0}
IsAsked (Rescind subj x of obj) = Unit {0}
IsAsked (Create subj obj sec int) = Unit {0}
IsAsked (Bind name subj obj sec int) = ⊥
IsAsked (Delete subj obj) = Unit {0}
IsAsked (Level subj lab) = Unit {0}
IsAsked (Relabel subj obj lab) = Unit {0}

-- The words that are to name something, as parts of a line. (own)
abbrev pub parts_by : List Sort → List (List ℕ) → List Part
parts_by [] words = []
parts_by (sort ∷ sorts) [] = []
parts_by (Plain ∷ sorts) (w ∷ words) = parts_by sorts words
parts_by (Subject ∷ sorts) (w ∷ words) = part.Subject w ∷ parts_by sorts words
parts_by (Object ∷ sorts) (w ∷ words) = part.Object w ∷ parts_by sorts words
parts_by (Security ∷ sorts) (w ∷ words) = part.Security w ∷ parts_by sorts words
parts_by (Integrity ∷ sorts) (w ∷ words) = part.Integrity w ∷ parts_by sorts words
