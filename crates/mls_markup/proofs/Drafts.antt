-- What is appended to a page that is being written.
use Rattle.std.proofs.Common.{◌≡◌, ℕ, ◌+◌, ◌<◌, List, [], ◌∷◌, ◌++◌, length, get_or, take, refl, sym, ap, ◌∙◌}
use Rattle.std.proofs.lemmas.List.{append_assoc, append-nil, take_more}
use Rattle.mls_markup.specs.Documents.{bottom_text}
use Rattle.mls_markup.specs.Drafts.{Draft, added, blank, closed, lined, opened, told}
use Rattle.mls_markup.specs.Escaping.{escaped}
use Rattle.mls_markup.specs.Pages.{page_of}
use Rattle.mls_markup.specs.Trees.{Forest, End, Words, Line, Element, Both, Named, all_of, begun, ended, written_of}
use Rattle.mls_markup.specs.declared.tag.Tag.{Tag}

-- these bytes more
more : Draft → List ℕ → Draft
more d bytes = record { bytes = d.bytes ++ bytes; tags = d.tags }

more_twice : (d : Draft) (a b : List ℕ) → more (more d a) b ≡ more d (a ++ b)
unfolding more
more_twice d a b = ap (λ (k : List ℕ). let e : Draft = record { bytes = k; tags = d.tags } in e) (append_assoc d.bytes a b)

more_none : (d : Draft) → d ≡ more d []
unfolding more
more_none d = ap (λ (k : List ℕ). let e : Draft = record { bytes = k; tags = d.tags } in e) (sym (append-nil d.bytes))

-- an element around some bytes
more_element : (d : Draft) (t : Tag) (attributes : List Named) (inner : List ℕ) → closed (more (opened d t attributes) inner) ≡ more d (begun t attributes ++ inner ++ ended t)
unfolding more opened closed
more_element d t attributes inner =
    ap (λ (k : List ℕ). let e : Draft = record { bytes = k; tags = d.tags } in e)
    (ap (λ b. b ++ ended t) (append_assoc d.bytes (begun t attributes) inner) ∙ append_assoc d.bytes (begun t attributes ++ inner) (ended t))

more_told : (d : Draft) (text : List ℕ) → told d text ≡ more d (escaped text)
unfolding more told
more_told d text = refl

more_lined : (d : Draft) → lined d ≡ more d (10 ∷ [])
unfolding more lined
more_lined d = refl

added_more : (d : Draft) (f : Forest) → added d f ≡ more d (written_of f)
added_more d End = more_none d
added_more d (Words text) = more_told d text
added_more d Line = more_lined d
added_more d (Element t attributes inner) =
    ap closed (added_more (opened d t attributes) inner) ∙ more_element d t attributes (written_of inner)
added_more d (Both first second) =
    added_more (added d first) second ∙ ap (λ e. more e (written_of second)) (added_more d first) ∙ more_twice d (written_of first) (written_of second)

-- what is appended of a tree is what is written of it, and the elements that are begun stay
pub added_bytes : (d : Draft) (f : Forest) → (added d f).bytes ≡ d.bytes ++ written_of f
unfolding more
added_bytes d f = ap (λ (e : Draft). e.bytes) (added_more d f)

pub added_tags : (d : Draft) (f : Forest) → (added d f).tags ≡ d.tags
unfolding more
added_tags d f = ap (λ (e : Draft). e.tags) (added_more d f)

-- what is written of a tree is what is appended of it
pub drawn_is : (bytes new : List ℕ) (tags : List Tag) (f : Forest) → new ≡ bytes ++ written_of f
    → (let d : Draft = record { bytes = new; tags = tags } in d) ≡ added (record { bytes = bytes; tags = tags }) f
unfolding more
drawn_is bytes new tags f is =
    ap (λ (k : List ℕ). let e : Draft = record { bytes = k; tags = tags } in e) is ∙ sym (added_more (record { bytes = bytes; tags = tags }) f)

-- a page with a tree, and its end
pub page_is : (title bytes : List ℕ) (d : Draft) (f : Forest) → d ≡ added (blank title) f → bytes ≡ d.bytes ++ bottom_text → bytes ≡ page_of title f
unfolding blank page_of
page_is title bytes d f is are =
    are ∙ ap (λ (e : Draft). e.bytes ++ bottom_text) is ∙ ap (λ b. b ++ bottom_text) (added_bytes (blank title) f)

-- a row more
all_push : {Row : Type 0} (d : Draft) (shown : Row → Forest) (rows : List Row) (row : Row) → added d (all_of shown (rows ++ row ∷ [])) ≡ added (added d (all_of shown rows)) (shown row)
all_push d shown [] row = refl
all_push d shown (first ∷ rows) row = all_push (added d (shown first)) shown rows row

pub row_next : {Row : Type 0} (d old new : Draft) (shown : Row → Forest) (rows : List Row) (n : ℕ) (none : Row) → n < length rows
    → old ≡ added d (all_of shown (take n rows)) → new ≡ added old (shown (get_or rows n none)) → new ≡ added d (all_of shown (take (n + 1) rows))
row_next d old new shown rows n none within so_far next =
    next ∙ ap (λ e. added e (shown (get_or rows n none))) so_far ∙ sym (all_push d shown (take n rows) (get_or rows n none))
    ∙ ap (λ rs. added d (all_of shown rs)) (sym (take_more rows n none within))
