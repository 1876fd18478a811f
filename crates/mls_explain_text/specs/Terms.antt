-- What is written of terms, and of how two of them compare.
use Rattle.std.specs.Prelude.{ℕ, Bool, List, ◌++◌, codes, if◌then◌else◌}
use Rattle.mls_lines.specs.Names.{Names}
use Rattle.mls_explain.specs.declared.term.Term.{Term}
use Rattle.mls_explain.specs.declared.term.Term.TheVariants as term
use Rattle.mls_wording.specs.Wording.{subject_text, object_text, security_text, integrity_text}

-- The first of two texts where it holds, else the second. (own)
abbrev pub either : Bool → List ℕ → List ℕ → List ℕ
either holds first second = if holds then first else second

-- Words, and what they introduce. (own)
abbrev pub worded : List ℕ → List ℕ → List ℕ
worded words rest = words ++ rest

-- A term: a label, and what it is the label of. (own)
abbrev pub term_text : Names → Term → List ℕ
term_text names (term.Maximum l) = worded (codes "maximum ") (security_text names l)
term_text names (term.Current l) = worded (codes "current ") (security_text names l)
term_text names (term.Security l) = worded (codes "new ") (security_text names l)
term_text names (term.Object l o) = security_text names l ++ worded (codes " of ") (object_text names o)
term_text names (term.Integrity i) = worded (codes "new ") (integrity_text names i)
term_text names (term.ObjectIntegrity i o) = integrity_text names i ++ worded (codes " of ") (object_text names o)
term_text names (term.SubjectIntegrity i s) = integrity_text names i ++ worded (codes " of ") (subject_text names s)

-- That a term dominates another, or that it doesn't. (own)
abbrev pub dominance_text : Names → Bool → Term → Term → List ℕ
dominance_text names holds upper lower =
    term_text names upper ++ either holds (codes " dominates ") (codes " does not dominate ") ++ term_text names lower

-- That a term equals another, or that it doesn't. (own)
abbrev pub equality_text : Names → Bool → Term → Term → List ℕ
equality_text names holds one other =
    term_text names one ++ either holds (codes " equals ") (codes " does not equal ") ++ term_text names other
