-- The page about a journal: its head, its sections in their order, and its end.
use Rattle.std.specs.Prelude.{◌≡◌, ℕ, List, ◌++◌, codes, Option, Some, None}
use Rattle.mls_listings.specs.Stamps.{rows_lent}
use Rattle.mls_markup.specs.Documents.{bottom_text}
use Rattle.mls_markup.specs.Drafts.{Draft, added, closed, lined}
use Rattle.mls_markup.specs.Trees.{Forest, End}
use Rattle.mls_page.specs.Counts.{HasCounts}
use Rattle.mls_page.specs.Heads.{begun_page}
use Rattle.mls_page.specs.Held.{HasHeld}
use Rattle.mls_page.specs.Powers.{HasPowers}
use Rattle.mls_page.specs.Sections.{Lists, Shows}
use Rattle.mls_page.specs.Short.{HasShort}
use Rattle.mls_page.specs.Terms.{part, terms}
use Rattle.mls_page.specs.Trusted.{trust}
use Rattle.mls_page.specs.Usage.{HasUsage}
use Rattle.mls_page.specs.Verified.{verified}
use Rattle.mls_page.specs.declared.report.Rows.{Rows}

-- Which part of the journal the page is about, where it isn't about all of it. (own)
abbrev pub about : Option (ℕ × ℕ) → Forest
about None = End
about (Some states) = part states.0 states.1

-- The first sections are appended, in this order: what matters in short, what the words mean, denied entries, trust and
-- the use of permissions. (own)
pub record HasFirst (r : Rows) (old new : Draft) : Type 0 where
  pub behind_short : Draft
  pub behind_terms : Draft
  pub behind_denials : Draft
  pub behind_trust : Draft
  pub in_short : HasShort r.short r.found old behind_short
  pub words : behind_terms ≡ added behind_short terms
  pub denials : Lists (codes "denials") (codes "Denied entries") (codes "mls journal --explain --reply no START J")
      behind_terms behind_denials
  pub trusts : behind_trust ≡ added behind_denials (trust r.names.now r.trusting.now)
  pub usage : HasUsage r.names.now (rows_lent r.marks) r.usages.now behind_trust new

-- The last sections are appended, in this order: who held what, who may change what, what could come about, how many
-- entries there are, the labels, and what was verified of a journal of so many entries. (own)
pub record HasLast (r : Rows) (old new : Draft) : Type 0 where
  pub behind_held : Draft
  pub behind_powers : Draft
  pub behind_futures : Draft
  pub behind_counts : Draft
  pub behind_lattice : Draft
  pub held : HasHeld r.names.now (rows_lent r.marks) r.spans.now r.many old behind_held
  pub powers : HasPowers r.names.now r.changes.now behind_held behind_powers
  pub futures : Shows (codes "futures") (codes "What could come about") behind_powers behind_futures
  pub counts : HasCounts r.names.now r.summary.now.reasons.items r.summary.now.replies.items
      behind_futures behind_counts
  pub lattice : Lists (codes "lattice") (codes "Lattice") (codes "mls lattice START") behind_counts behind_lattice
  pub verdict : new ≡ added behind_lattice (verified r.many r.found)

-- Which part of the journal the page is about is appended, and all sections in their order. (own)
pub record HasSections (r : Rows) (old new : Draft) : Type 0 where
  pub middle : Draft
  pub first_sections : HasFirst r (added old (about r.part)) middle
  pub last_sections : HasLast r middle new

-- A page about a journal: its head, which part of the journal it is about, all sections in their order, and its end.
-- (own)
pub record IsReport (r : Rows) (html : List ℕ) : Type 0 where
  pub last : Draft
  pub sections : HasSections r (begun_page r.start.now r.journal.now) last
  pub bytes_are : html ≡ (lined (closed last)).bytes ++ bottom_text
