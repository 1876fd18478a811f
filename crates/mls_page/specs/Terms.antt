-- The words of the page, and which part of a journal it is about.
use Rattle.std.specs.Prelude.{ℕ, List, [], ◌∷◌, codes}
use Rattle.std.specs.Fmt.{decimal}
use Rattle.mls_markup.specs.Trees.{Forest, End, Words, Line, Both, joined, plain, classed}
use Rattle.mls_markup.specs.declared.tag.Tag.TheVariants as tag
use Rattle.mls_page.specs.Sections.{on_line}
use Rattle.mls_page.specs.declared.terms.Term.{Term}

-- The line of a word, and what it says. (own)
unfoldable pub term_line : List ℕ → List ℕ → Forest
term_line word told =
    on_line (plain tag.Item (joined (plain tag.Bold (Words word) ∷ Words (codes ": ") ∷ Words told ∷ [])))

abbrev pub term_of : Term → Forest
term_of t = term_line t.word.now t.told.now

-- The lines of the words. (own)
unfoldable pub term_lines : Forest
term_lines =
    Both (term_line (codes "entry") (codes "one request in the journal, with its reply"))
    (Both (term_line (codes "denied") (codes "the first condition of the request's rule that fails is the reason"))
    (Both (term_line (codes "undefined")
    (codes "the request names a subject, an object or a label that does not exist"))
    (Both (term_line (codes "held") (codes "got and not yet released: the subject may use the object in this mode"))
    (Both (term_line (codes "dominates")
    (codes "has the same level or a higher one, and all categories of the other label"))
    (Both (term_line (codes "discretionary")
    (codes "the matrix of permissions does not permit the subject this mode of the object"))
    (Both (term_line (codes "simple")
    (codes "no reading up: the subject's maximum does not dominate the object's label"))
    (Both (term_line (codes "star")
    (codes "no writing down: information could flow to a label that does not dominate its own"))
    (Both (term_line (codes "integrity") (codes "data of low integrity would reach what is of higher integrity"))
    (Both (term_line (codes "authority")
    (codes "the subject does not write the object's parent, or is not trusted, as the rule requires"))
    (Both (term_line (codes "compatibility") (codes "an object's label would not dominate that of its parent"))
    (Both (term_line (codes "ceiling") (codes "the new level is above the subject's maximum"))
    (Both (term_line (codes "root") (codes "the root cannot be deleted"))
    (Both (term_line (codes "full") (codes "there is no number for another object"))
    (Both (term_line (codes "trusted")
    (codes "star does not bind the subject, and it may relabel objects and give permissions on the root"))
    (Both (term_line (codes "mark") (codes "a line with a time and a digest of the journal up to there"))
    End)))))))))))))))

-- What the words of the page say. (own)
unfoldable pub terms : Forest
terms = on_line (classed tag.Details (codes "terms") (Both (plain tag.Summary (Words (codes "What the words mean")))
    (plain tag.Items (Both Line term_lines))))

-- Between which two states the part of the journal is that the page is about. (own)
unfoldable pub part : ℕ → ℕ → Forest
part first last = on_line (classed tag.Paragraph (codes "part") (joined (
    Words (codes "This report is of a part of J: from the state before entry ")
    ∷ Words (decimal first)
    ∷ Words (codes " to the one before entry ")
    ∷ Words (decimal last)
    ∷ Words (codes ". The first of these states stands for the one that START opens with, ")
    ∷ Words (codes "the last for the one after the last entry. ")
    ∷ Words (codes "Held has whole spans, and Verified is of all of J. The commands print the same with ")
    ∷ plain tag.Code (Words (codes "--from"))
    ∷ Words (codes " and ")
    ∷ plain tag.Code (Words (codes "--to"))
    ∷ Words (codes ", those about one state with ")
    ∷ plain tag.Code (Words (codes "--at"))
    ∷ Words (codes ".")
    ∷ [])))
