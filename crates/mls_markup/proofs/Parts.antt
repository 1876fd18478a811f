-- Parts of a page, and what is appended to them.
use Rattle.std.proofs.Common.{◌≡◌, ℕ, Bool, true, false, List, [], ◌∷◌, ◌++◌, length, reverse, refl, sym, ap, ◌∙◌, subst, arith}
use Rattle.std.proofs.lemmas.List.{append_assoc, append-nil, reverse-append}
use Rattle.mls_markup.specs.Documents.{bottom_text, top_text}
use Rattle.mls_markup.specs.Drafts.{Draft, blank, closed, lined, opened, told}
use Rattle.mls_markup.specs.Escaping.{escaped}
use Rattle.mls_markup.specs.Pages.{Adds, IsPage, IsPart, Open, tags_of, top_where, written_open}
use Rattle.mls_markup.specs.Trees.{Forest, End, Words, Line, Element, Both, Named, begun, ended, written_of}
use Rattle.mls_markup.specs.declared.tag.Tag.{Tag}
use Rattle.mls_markup.proofs.Drafts.{drawn_is}

-- one thing more behind what the innermost element has
open_joined : (outer : List Open) (here more : Forest) → written_open outer (Both here more) ≡ written_open outer here ++ written_of more
open_joined [] here more = refl
open_joined (e ∷ outer) here more =
    sym (append_assoc (written_open outer e.before ++ begun e.tag e.attributes) (written_of here) (written_of more))

-- a part with more behind it
more_of : (whole : Bool) (bytes new : List ℕ) (tags : List Tag) (more : Forest) → new ≡ bytes ++ written_of more → IsPart whole bytes tags → IsPart whole new tags
more_of whole bytes new tags more is part = record {
  title = part.title;
  outer = part.outer;
  here = Both part.here more;
  bytes_are = is ∙ ap (λ b. b ++ written_of more) part.bytes_are ∙ append_assoc (top_where whole part.title) (written_open part.outer part.here) (written_of more)
      ∙ ap (λ b. top_where whole part.title ++ b) (sym (open_joined part.outer part.here more));
  tags_are = part.tags_are;
}

-- a text more
pub part_text : (whole : Bool) (bytes new text : List ℕ) (tags : List Tag) → new ≡ bytes ++ escaped text → IsPart whole bytes tags → IsPart whole new tags
part_text whole bytes new text tags is part = more_of whole bytes new tags (Words text) is part

-- a line more
pub part_line : (whole : Bool) (bytes new : List ℕ) (tags : List Tag) → new ≡ bytes ++ 10 ∷ [] → IsPart whole bytes tags → IsPart whole new tags
part_line whole bytes new tags is part = more_of whole bytes new tags Line is part

-- the names with one more, the innermost first
pushed : (tags newer : List Tag) (t : Tag) → newer ≡ tags ++ t ∷ [] → reverse newer ≡ t ∷ reverse tags
pushed tags newer t are = ap reverse are ∙ reverse-append tags (t ∷ [])

-- an element more that is begun
pub part_begun : (whole : Bool) (bytes new : List ℕ) (tags newer : List Tag) (t : Tag) (attributes : List Named) → new ≡ bytes ++ begun t attributes → newer ≡ tags ++ t ∷ []
    → IsPart whole bytes (reverse tags) → IsPart whole new (reverse newer)
part_begun whole bytes new tags newer t attributes is are part =
    let e : Open = record { tag = t; attributes = attributes; before = part.here } in
    record {
      title = part.title;
      outer = e ∷ part.outer;
      here = End;
      bytes_are = is ∙ ap (λ b. b ++ begun t attributes) part.bytes_are
          ∙ append_assoc (top_where whole part.title) (written_open part.outer part.here) (begun t attributes)
          ∙ ap (λ b. top_where whole part.title ++ b) (sym (append-nil (written_open part.outer part.here ++ begun t attributes)));
      tags_are = pushed tags newer t are ∙ ap (λ ts. t ∷ ts) part.tags_are;
    }

-- that is what is appended where an element begins
pub draft_begun : (bytes new : List ℕ) (tags newer : List Tag) (t : Tag) (attributes : List Named) → new ≡ bytes ++ begun t attributes → newer ≡ tags ++ t ∷ []
    → (let d : Draft = record { bytes = new; tags = reverse newer } in d) ≡ opened (record { bytes = bytes; tags = reverse tags }) t attributes
unfolding opened
draft_begun bytes new tags newer t attributes is are = rw (is, pushed tags newer t are) refl

-- no list ends where it has something more
never : (t : Tag) (ts : List Tag) → t ∷ ts ≡ [] → ⊥
never t ts is = cc

head_is : (t k : Tag) (ts ks : List Tag) → t ∷ ts ≡ k ∷ ks → t ≡ k
head_is t k ts ks is = cc

rest_is : (t k : Tag) (ts ks : List Tag) → t ∷ ts ≡ k ∷ ks → ts ≡ ks
rest_is t k ts ks is = cc

regroup : (top out tag in_it end : List ℕ) → (top ++ (out ++ tag ++ in_it)) ++ end ≡ top ++ (out ++ (tag ++ in_it ++ end))
regroup top out tag in_it end = simp append_assoc

ends : (whole : Bool) (bytes new : List ℕ) (newer : List Tag) (t : Tag) (title : List ℕ) (outer : List Open) (here : Forest) → new ≡ bytes ++ ended t
    → bytes ≡ top_where whole title ++ written_open outer here → t ∷ newer ≡ tags_of outer → IsPart whole new newer
ends whole bytes new newer t title [] here is are tags = absurd (never t newer tags)
ends whole bytes new newer t title (e ∷ outer) here is are tags =
    let inner : Forest = Element e.tag e.attributes here in
    record {
      title = title;
      outer = outer;
      here = Both e.before inner;
      bytes_are = is ∙ ap (λ b. b ++ ended t) are
          ∙ regroup (top_where whole title) (written_open outer e.before) (begun e.tag e.attributes) (written_of here) (ended t)
          ∙ ap (λ k. top_where whole title ++ (written_open outer e.before ++ (begun e.tag e.attributes ++ written_of here ++ ended k))) (head_is t e.tag newer (tags_of outer) tags)
          ∙ ap (λ b. top_where whole title ++ b) (sym (open_joined outer e.before inner));
      tags_are = rest_is t e.tag newer (tags_of outer) tags;
    }

-- the innermost element ends
pub part_ended : (whole : Bool) (bytes new : List ℕ) (tags newer : List Tag) (t : Tag) → new ≡ bytes ++ ended t → tags ≡ newer ++ t ∷ [] → IsPart whole bytes (reverse tags)
    → IsPart whole new (reverse newer)
part_ended whole bytes new tags newer t is are part =
    ends whole bytes new (reverse newer) t part.title part.outer part.here is part.bytes_are (sym (pushed newer tags t are) ∙ part.tags_are)

-- that is what is appended where an element ends
pub draft_ended : (bytes new : List ℕ) (tags newer : List Tag) (t : Tag) → new ≡ bytes ++ ended t → tags ≡ newer ++ t ∷ []
    → (let d : Draft = record { bytes = new; tags = reverse newer } in d) ≡ closed (record { bytes = bytes; tags = reverse tags })
unfolding closed
draft_ended bytes new tags newer t is are = rw (is, pushed newer tags t are) refl

-- so for a text and a line
pub draft_told : (bytes new text : List ℕ) (tags : List Tag) → new ≡ bytes ++ escaped text
    → (let d : Draft = record { bytes = new; tags = tags } in d) ≡ told (record { bytes = bytes; tags = tags }) text
unfolding told
draft_told bytes new text tags is = rw is refl

pub draft_lined : (bytes new : List ℕ) (tags : List Tag) → new ≡ bytes ++ 10 ∷ []
    → (let d : Draft = record { bytes = new; tags = tags } in d) ≡ lined (record { bytes = bytes; tags = tags })
unfolding lined
draft_lined bytes new tags is = rw is refl

-- the first page, without anything
pub part_first : (whole : Bool) (bytes title : List ℕ) → bytes ≡ top_where whole title → IsPart whole bytes []
part_first whole bytes title is = record {
  title = title;
  outer = [];
  here = End;
  bytes_are = is ∙ sym (append-nil (top_where whole title));
  tags_are = refl;
}

pub draft_first : (bytes title : List ℕ) (tags : List Tag) → bytes ≡ top_text title → tags ≡ [] → (let d : Draft = record { bytes = bytes; tags = reverse tags } in d) ≡ blank title
unfolding blank
draft_first bytes title tags is none = rw (is, none) refl

page_from : (bytes html title : List ℕ) (outer : List Open) (here : Forest) → html ≡ bytes ++ bottom_text → bytes ≡ top_text title ++ written_open outer here
    → tags_of outer ≡ [] → IsPage html
page_from bytes html title [] here is are tags = record {
  title = title;
  tree = here;
  bytes_are = is ∙ ap (λ b. b ++ bottom_text) are;
}
page_from bytes html title (e ∷ outer) here is are tags = absurd (never e.tag (tags_of outer) tags)

none : (tags : List Tag) → length tags ≡ 0 → tags ≡ []
none [] is = refl
none (t ∷ tags) is = absurd (omega (arith, is))

-- a part of which each element is ended
pub part_page : (bytes html : List ℕ) (tags : List Tag) → html ≡ bytes ++ bottom_text → length tags ≡ 0 → IsPart true bytes (reverse tags) → IsPage html
part_page bytes html tags is count part =
    page_from bytes html part.title part.outer part.here is part.bytes_are (sym part.tags_are ∙ ap reverse (none tags count))

-- what a sheet has of which each element is ended
sheet_from : (bytes : List ℕ) (outer : List Open) (here : Forest) → bytes ≡ written_open outer here → tags_of outer ≡ [] → (f : Forest) × (bytes ≡ written_of f)
sheet_from bytes [] here is tags = (here, is)
sheet_from bytes (e ∷ outer) here is tags = absurd (never e.tag (tags_of outer) tags)

pub sheet_tree : (bytes : List ℕ) (tags : List Tag) → length tags ≡ 0 → IsPart false bytes (reverse tags) → (f : Forest) × (bytes ≡ written_of f)
sheet_tree bytes tags count part = sheet_from bytes part.outer part.here part.bytes_are (sym part.tags_are ∙ ap reverse (none tags count))

-- a sheet without anything
pub sheet_first : (bytes : List ℕ) (tags : List Tag) → bytes ≡ [] → tags ≡ [] → IsPart false bytes (reverse tags)
sheet_first bytes tags is are = subst (λ ts. IsPart false bytes (reverse ts)) (sym are) (part_first false bytes [] is)

-- a page with what is on a sheet behind it
pub part_sheet : (whole : Bool) (bytes new sheet : List ℕ) (tags sheet_tags : List Tag) → new ≡ bytes ++ sheet → length sheet_tags ≡ 0
    → IsPart false sheet (reverse sheet_tags) → IsPart whole bytes tags → IsPart whole new tags
part_sheet whole bytes new sheet tags sheet_tags is count on part =
    let tree = sheet_tree sheet sheet_tags count on in
    more_of whole bytes new tags tree.0 (is ∙ ap (λ b. bytes ++ b) tree.1) part

-- that is what is appended
pub adds_sheet : (bytes new sheet : List ℕ) (tags sheet_tags : List Tag) → new ≡ bytes ++ sheet → length sheet_tags ≡ 0 → IsPart false sheet (reverse sheet_tags)
    → Adds (record { bytes = bytes; tags = tags }) (record { bytes = new; tags = tags })
adds_sheet bytes new sheet tags sheet_tags is count on =
    let tree = sheet_tree sheet sheet_tags count on in
    record { tree = tree.0; is = drawn_is bytes new tags tree.0 (is ∙ ap (λ b. bytes ++ b) tree.1) }
