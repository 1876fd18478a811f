-- What is appended to a page, part by part.
use Rattle.std.specs.Prelude.{List, [], ◌∷◌}
use Rattle.std.specs.Fmt.{decimal}
use Rattle.mls_markup.specs.Drafts.{Draft, added, closed, lined, opened, told}
use Rattle.mls_markup.specs.Trees.{Words, classed, plain}
use Rattle.mls_markup.specs.declared.attribute.Attribute.TheVariants as attribute
use Rattle.mls_page.specs.declared.parts.Part.{Part}
use Rattle.mls_page.specs.declared.parts.Part.TheVariants as part
use Rattle.mls_wording.specs.Wording.{object_text, subject_text}

-- A page with a part more. (own)
abbrev pub with_part : Draft → Part → Draft
with_part d (part.Begin t) = opened d t []
with_part d (part.BeginAs t class) = opened d t ((attribute.Class, class.now) ∷ [])
with_part d (part.BeginWith t a value) = opened d t ((a, value.now) ∷ [])
with_part d part.End = closed d
with_part d (part.Leaf t text) = added d (plain t (Words text.now))
with_part d (part.LeafAs t class text) = added d (classed t class.now (Words text.now))
with_part d (part.Text text) = told d text.now
with_part d (part.Number n) = told d (decimal n)
with_part d (part.Subject names s) = told d (subject_text names.now s)
with_part d (part.Object names o) = told d (object_text names.now o)
with_part d part.Line = lined d

-- A page with these parts more, one after the other. (own)
abbrev pub with_all : Draft → List Part → Draft
with_all d [] = d
with_all d (p ∷ rest) = with_all (with_part d p) rest
