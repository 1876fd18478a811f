-- The head of the page: its title, its heading, and the links to its sections.
use Rattle.std.specs.Prelude.{ℕ, List, [], ◌∷◌, ◌++◌, codes}
use Rattle.mls_markup.specs.Trees.{Forest, End, Words, Line, Element, Both, joined, plain}
use Rattle.mls_markup.specs.declared.tag.Tag.TheVariants as tag
use Rattle.mls_markup.specs.declared.attribute.Attribute.TheVariants as attribute
use Rattle.mls_markup.specs.Drafts.{Draft, added, blank, opened}
use Rattle.mls_page.specs.Sections.{on_line}
use Rattle.mls_page.specs.declared.section.Section.{Section}

-- The title of the page about a journal of a name. (own)
unfoldable pub title : List ℕ → List ℕ
title journal = codes "mls report: " ++ journal

-- Its heading: which journal, and over which start file. (own)
unfoldable pub header : List ℕ → List ℕ → Forest
header start journal = on_line (plain tag.Header (joined (
    Line
    ∷ on_line (plain tag.HeadingOfPage (Both (Words (codes "Report of ")) (Words journal)))
    ∷ on_line (plain tag.Paragraph (joined (
    Words (codes "A journal over the start file ")
    ∷ plain tag.Code (Words start)
    ∷ Words (codes ". START and J below are these two files.")
    ∷ [])))
    ∷ [])))

-- The link to a section. (own)
unfoldable pub link : List ℕ → List ℕ → Forest
link id words =
    on_line (plain tag.Item (Element tag.Anchor ((attribute.Link, codes "#" ++ id) ∷ []) (Words words)))

unfoldable pub link_to : Section → Forest
link_to s = link s.id.now s.title.now

-- The links to all sections, in their order. (own)
unfoldable pub all_links : Forest
all_links =
    Both (link (codes "short") (codes "In short"))
    (Both (link (codes "denials") (codes "Denied entries"))
    (Both (link (codes "trust") (codes "Trust"))
    (Both (link (codes "usage") (codes "Use of permissions"))
    (Both (link (codes "held") (codes "Held"))
    (Both (link (codes "powers") (codes "Powers"))
    (Both (link (codes "futures") (codes "What could come about"))
    (Both (link (codes "counts") (codes "Entries"))
    (Both (link (codes "lattice") (codes "Lattice"))
    (Both (link (codes "verified") (codes "Verified"))
    End)))))))))

-- They stand in a list, which has a name of its own where it isn't seen. (own)
unfoldable pub links : Forest
links =
    on_line (Element tag.Navigation ((attribute.AriaLabel, codes "Sections") ∷ []) (plain tag.Items (Both Line all_links)))

-- A page about a journal over a start file, up to its sections. (own)
abbrev pub begun_page : List ℕ → List ℕ → Draft
begun_page start journal =
    added (opened (added (blank (title journal)) (Both (header start journal) links)) tag.Main []) Line
