-- Bars, as inline SVG.
use Rattle.std.specs.Prelude.{ℕ, List, [], ◌∷◌, ◌++◌, codes, ◌==◌, if◌then◌else◌}
use Rattle.std.specs.Fmt.{decimal}
use Rattle.mls_markup.specs.Trees.{Forest, End, Element, Named}
use Rattle.mls_markup.specs.declared.tag.Tag.TheVariants as tag
use Rattle.mls_markup.specs.declared.attribute.Attribute.TheVariants as attribute
use Rattle.mls_page.specs.declared.bar.Colour.{Colour}
use Rattle.mls_page.specs.declared.bar.Colour.TheVariants as colour

-- The class of a bar of a colour. (own)
abbrev pub class_of : Colour → List ℕ
class_of colour.Granted = codes "bar granted"
class_of colour.Denied = codes "bar denied"
class_of colour.Undefined = codes "bar undefined"
class_of colour.Held = codes "bar held"

-- A drawing of bars of a class over so many units: it is as wide as its cell. (own, after SVG, "viewBox")
abbrev pub drawn_as : List ℕ → ℕ → List Named
drawn_as class units =
    (attribute.Class, class)
    ∷ (attribute.AriaHidden, codes "true")
    ∷ (attribute.Ratio, codes "none")
    ∷ (attribute.Extent, codes "0 0 " ++ decimal units ++ codes " 1")
    ∷ []

-- The shape of a stretch from a unit on. (own, after SVG, "Path data")
abbrev pub shape : ℕ → ℕ → List ℕ
shape from n = codes "M" ++ decimal from ++ codes " 0h" ++ decimal n ++ codes "v1h-" ++ decimal n ++ codes "z"

-- A stretch from a unit on, as long as it is; none where it has no length. (own)
abbrev pub stretch : ℕ → ℕ → Forest
stretch from n = if n == 0 then End else Element tag.Path ((attribute.Drawn, shape from n) ∷ []) End

-- A bar over so many units, from a unit on, as long as it is. (own)
unfoldable pub bar_of : List ℕ → ℕ → ℕ → ℕ → Forest
bar_of class units from length = Element tag.Svg (drawn_as class units) (stretch from length)
