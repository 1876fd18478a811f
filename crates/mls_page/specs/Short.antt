-- What matters, in five lines.
use Rattle.std.specs.Prelude.{◌≡◌, ℕ, ◌==◌, List, [], ◌∷◌, codes, Option, Some, None, if◌then◌else◌}
use Rattle.std.specs.Fmt.{decimal}
use Rattle.mls_markup.specs.Drafts.{Draft, added, closed, lined, opened}
use Rattle.mls_markup.specs.Trees.{Forest, Words, Line, Both, joined, plain, classed}
use Rattle.mls_markup.specs.declared.tag.Tag.TheVariants as tag
use Rattle.mls_markup.specs.declared.attribute.Attribute.TheVariants as attribute
use Rattle.mls_page.specs.Sections.{heading, labelled, on_line, section}
use Rattle.mls_page.specs.declared.short.Short.{Short}
use Rattle.mls_page.specs.declared.verified.Found.{Found}

-- `entry`, where there is one, else `entries`. (own)
abbrev pub entries_word : ℕ → List ℕ
entries_word n = if n == 1 then codes " entry" else codes " entries"

-- The line of how many entries there are. (own)
unfoldable pub entries_line : Short → Forest
entries_line s = on_line (plain tag.Item (joined (
    plain tag.Bold (Both (Words (decimal s.entries)) (Words (entries_word s.entries)))
    ∷ Words (codes ": ")
    ∷ Words (decimal s.granted)
    ∷ Words (codes " granted, ")
    ∷ Words (decimal s.denied)
    ∷ Words (codes " denied, ")
    ∷ Words (decimal s.undefined)
    ∷ Words (codes " undefined.")
    ∷ [])))

-- The line of what could be removed. (own)
unfoldable pub unused_line : Short → Forest
unused_line s = on_line (plain tag.Item (joined (
    plain tag.Bold (joined (
    Words (decimal s.unused)
    ∷ Words (codes " of ")
    ∷ Words (decimal s.permissions)
    ∷ Words (codes " permissions were never granted")
    ∷ []))
    ∷ Words (codes " (")
    ∷ plain tag.Code (Words (codes "mls usage --never"))
    ∷ Words (codes "). From START, ")
    ∷ Words (decimal s.removable)
    ∷ Words (codes " of them could be removed (")
    ∷ plain tag.Code (Words (codes "mls usage --tighten"))
    ∷ Words (codes "), unless they are young.")
    ∷ [])))

-- What marks say of the journal. (own)
unfoldable pub said_by : Found → Forest
said_by found = joined (
    Words (codes " and its marks, up to the digest ")
    ∷ classed tag.Span (codes "digest") (Words found.digest.now)
    ∷ Words (codes "; entries behind the last mark: ")
    ∷ Words (decimal found.behind)
    ∷ Words (codes ".")
    ∷ [])

-- What they say, where they were looked at. (own)
abbrev pub mark_words : Option Found → Forest
mark_words None = Words (codes ": each reply is the one that the rules give. No marks were looked at.")
mark_words (Some found) = said_by found

-- The line of what was verified. (own)
unfoldable pub verified_line : Option Found → Forest
verified_line found =
    on_line (plain tag.Item (Both (plain tag.Bold (Words (codes "The journal was verified"))) (mark_words found)))

-- The section up to its first line, and its last lines and its end. (own)
abbrev pub begun_short : Short → Draft → Draft
begun_short s d = added (added (opened (added (opened d tag.Section (labelled (codes "short")))
    (heading (codes "short") (codes "In short"))) tag.Items ((attribute.Class, codes "short") ∷ [])) Line) (entries_line s)

abbrev pub ended_short : Short → Option Found → Draft → Draft
ended_short s found d =
    lined (closed (lined (closed (added (added d (unused_line s)) (verified_line found)))))

-- The section: the five lines, of which the second and the third, how denials went over time and who used trust, are
-- some tree. (own)
unfoldable pub short : Short → Forest → Option Found → Forest
short s told found = section (codes "short") (codes "In short") (on_line (classed tag.Items (codes "short") (joined (
    Line
    ∷ entries_line s
    ∷ told
    ∷ unused_line s
    ∷ verified_line found
    ∷ []))))

-- The section is appended. (own)
pub record HasShort (s : Short) (found : Option Found) (old new : Draft) : Type 0 where
  pub told : Forest
  pub is : new ≡ added old (short s told found)
