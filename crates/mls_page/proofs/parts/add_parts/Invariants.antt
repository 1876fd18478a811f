use Rattle.std.proofs.Common.{◌≡◌, take}
use Rattle.mls_page.specs.Parts.{with_all}
use Rattle.mls_page.proofs.parts.add_parts.Given as goal

-- those so far
abbrev pub invariant-loop-part : goal.invariant-loop-part
invariant-loop-part l = l.page ≡ with_all l.fn.page (take l.part-index l.parts)
