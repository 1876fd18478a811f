-- What is whole together with what; what is escaped is whole.
use Rattle.std.specs.Prelude.{◌≡◌, ℕ, true, false, not, ◌==◌, nat_lt, List, [], ◌∷◌, ◌++◌, codes, refl}
use Rattle.std.proofs.Common.{inl, inr}
use Rattle.std.specs.List.{list_all, flat_map}
use Rattle.std.proofs.lemmas.Bool.{cases_Bool}
use Rattle.std.proofs.lemmas.List.Folds.{list_all-append}
use Rattle.mls_markup.specs.Reading.{Place, Text, Tag, Value, after, after_all}
use Rattle.mls_markup.specs.Escaping.{written, escaped, is_delimiter}
use Rattle.mls_markup.specs.Words.{tag_word, attribute_word}
use Rattle.mls_markup.specs.Trees.{Forest, End, Words, Line, Element, Both, Named, attribute_text, begun, ended, written_of}
use Rattle.mls_markup.specs.declared.tag.Tag.{Tag as Kind}
use Rattle.mls_markup.specs.declared.tag.Tag.TheVariants as tag
use Rattle.mls_markup.specs.declared.attribute.Attribute.{Attribute}
use Rattle.mls_markup.specs.declared.attribute.Attribute.TheVariants as attribute

-- a reader goes on where it is
pub after_both : (place : Place) (xs ys : List ℕ) → after_all place (xs ++ ys) ≡ after_all (after_all place xs) ys
after_both place [] ys = refl
after_both place (x ∷ xs) ys = after_both (after place x) xs ys

-- what holds of each reference, and of a byte that is none of those, holds of what is written of a byte
written_cases : (P : List ℕ → Type 0) (b : ℕ) → P (codes "&amp;") → P (codes "&lt;") → P (codes "&gt;") → P (codes "&quot;") → P (codes "&#39;") → P (codes "&#xFFFD;")
    → ((b == 38) ≡ false → (b == 60) ≡ false → (b == 62) ≡ false → (b == 34) ≡ false → (b == 39) ≡ false → P (b ∷ [])) → P (written b)
written_cases P b amp lt gt quot apos strange self = elim (cases_Bool (b == 38)) [
  | inl is38 ↦ rw is38 amp
  | inr no38 ↦ elim (cases_Bool (b == 60)) [
    | inl is60 ↦ rw (no38, is60) lt
    | inr no60 ↦ elim (cases_Bool (b == 62)) [
      | inl is62 ↦ rw (no38, no60, is62) gt
      | inr no62 ↦ elim (cases_Bool (b == 34)) [
        | inl is34 ↦ rw (no38, no60, no62, is34) quot
        | inr no34 ↦ elim (cases_Bool (b == 39)) [
          | inl is39 ↦ rw (no38, no60, no62, no34, is39) apos
          | inr no39 ↦ elim (cases_Bool (nat_lt b 32)) [
            | inl low ↦ rw (no38, no60, no62, no34, no39, low) strange
            | inr high ↦ elim (cases_Bool (b == 127)) [
              | inl is127 ↦ rw (no38, no60, no62, no34, no39, high, is127) strange
              | inr no127 ↦ rw (no38, no60, no62, no34, no39, high, no127) (self no38 no60 no62 no34 no39)
            ]
          ]
        ]
      ]
    ]
  ]
]

-- what is written of a byte leaves a reader where it is
written_in_text : (b : ℕ) → after_all Text (written b) ≡ Text
written_in_text b = written_cases (λ bytes. after_all Text bytes ≡ Text) b refl refl refl refl refl refl (λ no38 no60 _ _ _. rw (no60, no38) refl)

written_in_value : (b : ℕ) → after_all Value (written b) ≡ Value
written_in_value b = written_cases (λ bytes. after_all Value bytes ≡ Value) b refl refl refl refl refl refl (λ no38 _ _ no34 _. rw (no34, no38) refl)

-- and so does what is written of a text
pub escaped_in_text : (text : List ℕ) → after_all Text (escaped text) ≡ Text
escaped_in_text [] = refl
escaped_in_text (b ∷ text) = rw (after_both Text (written b) (escaped text), written_in_text b) (escaped_in_text text)

pub escaped_in_value : (text : List ℕ) → after_all Value (escaped text) ≡ Value
escaped_in_value [] = refl
escaped_in_value (b ∷ text) = rw (after_both Value (written b) (escaped text), written_in_value b) (escaped_in_value text)

-- no delimiter is written of a byte, nor of a text
written_plain : (b : ℕ) → list_all (λ c. not (is_delimiter c)) (written b) ≡ true
written_plain b = written_cases (λ bytes. list_all (λ c. not (is_delimiter c)) bytes ≡ true) b refl refl refl refl refl refl (λ _ no60 no62 no34 no39. rw (no60, no62, no34, no39) refl)

pub escaped_plain : (text : List ℕ) → list_all (λ c. not (is_delimiter c)) (escaped text) ≡ true
escaped_plain [] = refl
escaped_plain (b ∷ text) = rw (list_all-append (λ c. not (is_delimiter c)) (written b) (escaped text), written_plain b) (escaped_plain text)

-- the name of an element leaves a reader in its tag
word_in_tag : (t : Kind) → after_all Tag (tag_word t) ≡ Tag
word_in_tag tag.Anchor = refl
word_in_tag tag.Bold = refl
word_in_tag tag.Caption = refl
word_in_tag tag.Code = refl
word_in_tag tag.Details = refl
word_in_tag tag.Division = refl
word_in_tag tag.Header = refl
word_in_tag tag.Heading = refl
word_in_tag tag.HeadingOfPage = refl
word_in_tag tag.Item = refl
word_in_tag tag.Items = refl
word_in_tag tag.Main = refl
word_in_tag tag.Navigation = refl
word_in_tag tag.Paragraph = refl
word_in_tag tag.Path = refl
word_in_tag tag.Preformatted = refl
word_in_tag tag.Section = refl
word_in_tag tag.Span = refl
word_in_tag tag.Summary = refl
word_in_tag tag.Svg = refl
word_in_tag tag.Table = refl
word_in_tag tag.TableBody = refl
word_in_tag tag.TableCell = refl
word_in_tag tag.TableHead = refl
word_in_tag tag.TableHeading = refl
word_in_tag tag.TableRow = refl
word_in_tag tag.Text = refl

-- and so does that of an attribute
attribute_in_tag : (a : Attribute) → after_all Tag (attribute_word a) ≡ Tag
attribute_in_tag attribute.AriaHidden = refl
attribute_in_tag attribute.AriaLabel = refl
attribute_in_tag attribute.AriaLabelledBy = refl
attribute_in_tag attribute.Class = refl
attribute_in_tag attribute.ColumnSpan = refl
attribute_in_tag attribute.Drawn = refl
attribute_in_tag attribute.Extent = refl
attribute_in_tag attribute.Id = refl
attribute_in_tag attribute.Link = refl
attribute_in_tag attribute.Ratio = refl
attribute_in_tag attribute.Role = refl
attribute_in_tag attribute.Scope = refl
attribute_in_tag attribute.Style = refl
attribute_in_tag attribute.TabIndex = refl
attribute_in_tag attribute.Transform = refl

-- and so does an attribute with its value
named_in_tag : (a : Named) → after_all Tag (attribute_text a) ≡ Tag
named_in_tag a =
    rw (after_both Tag (32 ∷ attribute_word a.0 ++ 61 ∷ 34 ∷ escaped a.1) (34 ∷ []), after_both Tag (32 ∷ attribute_word a.0) (61 ∷ 34 ∷ escaped a.1), attribute_in_tag a.0, escaped_in_value a.1) refl

all_in_tag : (xs : List Named) → after_all Tag (flat_map attribute_text xs) ≡ Tag
all_in_tag [] = refl
all_in_tag (x ∷ xs) = rw (after_both Tag (attribute_text x) (flat_map attribute_text xs), named_in_tag x) (all_in_tag xs)

-- a reader in a text is in a text behind the beginning of an element, and behind its end
begun_in_text : (t : Kind) (xs : List Named) → after_all Text (begun t xs) ≡ Text
begun_in_text t xs =
    rw (after_both Text (60 ∷ tag_word t ++ flat_map attribute_text xs) (62 ∷ []), after_both Text (60 ∷ tag_word t) (flat_map attribute_text xs), word_in_tag t, all_in_tag xs) refl

ended_in_text : (t : Kind) → after_all Text (ended t) ≡ Text
ended_in_text t = rw (after_both Text (60 ∷ 47 ∷ tag_word t) (62 ∷ []), word_in_tag t) refl

-- and so behind all that is written of a tree
pub written_whole : (f : Forest) → after_all Text (written_of f) ≡ Text
written_whole End = refl
written_whole (Words text) = escaped_in_text text
written_whole Line = refl
written_whole (Element t xs inner) =
    rw (after_both Text (begun t xs ++ written_of inner) (ended t), after_both Text (begun t xs) (written_of inner), begun_in_text t xs, written_whole inner) (ended_in_text t)
written_whole (Both first second) = rw (after_both Text (written_of first) (written_of second), written_whole first) (written_whole second)
