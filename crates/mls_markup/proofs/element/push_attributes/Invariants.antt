use Rattle.std.proofs.Common.{◌≡◌, ◌++◌, take}
use Rattle.std.specs.Prelude.{map}
use Rattle.std.specs.List.{flat_map}
use Rattle.mls_markup.specs.Trees.{attribute_text, named}
use Rattle.mls_markup.proofs.element.push_attributes.Given as goal

-- the attributes so far
abbrev pub invariant-loop-pair : goal.invariant-loop-pair
invariant-loop-pair l = l.html.items ≡ l.fn.html.items ++ flat_map attribute_text (map named (take l.pair-index l.attributes))
