-- The words of a line that are to name something are the parts that the grammar has.
use Rattle.std.proofs.Common.{◌≡◌, refl}
use Rattle.mls_tables.specs.declared.mode.Mode.TheVariants.{Execute, Read, Append, Write}
use Rattle.mls_lines.specs.Forms.{Form, Empty, Note, Check, Get, Release, Give, Rescind, Create, Bind, Delete, Level}
use Rattle.mls_lines.specs.Forms.{Relabel, tokens_in, parts_in}
use Rattle.mls_explain_text.specs.Parts.{IsAsked, parts_by}
use Rattle.mls_explain_text.specs.Sorts.{sorts_in}

pub parts_are : (form : Form) → IsAsked form → parts_by (sorts_in (tokens_in form)) (tokens_in form) ≡ parts_in form
parts_are Empty h = absurd h
parts_are (Note note rest) h = absurd h
parts_are (Check subj x obj) h = refl
parts_are (Get subj Execute obj) h = refl
parts_are (Get subj Read obj) h = refl
parts_are (Get subj Append obj) h = refl
parts_are (Get subj Write obj) h = refl
parts_are (Release subj x obj) h = refl
parts_are (Give subj x to obj) h = refl
parts_are (Rescind subj x of obj) h = refl
parts_are (Create subj obj sec int) h = refl
parts_are (Bind name subj obj sec int) h = absurd h
parts_are (Delete subj obj) h = refl
parts_are (Level subj lab) h = refl
parts_are (Relabel subj obj lab) h = refl
