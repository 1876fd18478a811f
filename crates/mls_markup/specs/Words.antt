-- The names of elements and of attributes.
use Rattle.std.specs.Prelude.{ℕ, List, codes}
use Rattle.mls_markup.specs.declared.tag.Tag.{Tag}
use Rattle.mls_markup.specs.declared.tag.Tag.TheVariants as tag
use Rattle.mls_markup.specs.declared.attribute.Attribute.{Attribute}
use Rattle.mls_markup.specs.declared.attribute.Attribute.TheVariants as attribute

-- The name of an element. (HTML and SVG, "Elements")
abbrev pub tag_word : Tag → List ℕ
tag_word tag.Anchor = codes "a"
tag_word tag.Bold = codes "b"
tag_word tag.Caption = codes "caption"
tag_word tag.Code = codes "code"
tag_word tag.Details = codes "details"
tag_word tag.Division = codes "div"
tag_word tag.Header = codes "header"
tag_word tag.Heading = codes "h2"
tag_word tag.HeadingOfPage = codes "h1"
tag_word tag.Item = codes "li"
tag_word tag.Items = codes "ul"
tag_word tag.Main = codes "main"
tag_word tag.Navigation = codes "nav"
tag_word tag.Paragraph = codes "p"
tag_word tag.Path = codes "path"
tag_word tag.Preformatted = codes "pre"
tag_word tag.Section = codes "section"
tag_word tag.Span = codes "span"
tag_word tag.Summary = codes "summary"
tag_word tag.Svg = codes "svg"
tag_word tag.Table = codes "table"
tag_word tag.TableBody = codes "tbody"
tag_word tag.TableCell = codes "td"
tag_word tag.TableHead = codes "thead"
tag_word tag.TableHeading = codes "th"
tag_word tag.TableRow = codes "tr"
tag_word tag.Text = codes "text"

-- The name of an attribute. (HTML and SVG, "Attributes")
abbrev pub attribute_word : Attribute → List ℕ
attribute_word attribute.AriaHidden = codes "aria-hidden"
attribute_word attribute.AriaLabel = codes "aria-label"
attribute_word attribute.AriaLabelledBy = codes "aria-labelledby"
attribute_word attribute.Class = codes "class"
attribute_word attribute.ColumnSpan = codes "colspan"
attribute_word attribute.Drawn = codes "d"
attribute_word attribute.Extent = codes "viewBox"
attribute_word attribute.Id = codes "id"
attribute_word attribute.Link = codes "href"
attribute_word attribute.Ratio = codes "preserveAspectRatio"
attribute_word attribute.Role = codes "role"
attribute_word attribute.Scope = codes "scope"
attribute_word attribute.Style = codes "style"
attribute_word attribute.TabIndex = codes "tabindex"
attribute_word attribute.Transform = codes "transform"
