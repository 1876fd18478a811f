use Rattle.std.proofs.Common.{◌≡◌, take}
use Rattle.mls_markup.specs.Drafts.{added}
use Rattle.mls_markup.specs.Trees.{all_of}
use Rattle.mls_page.specs.Held.{span_stretch}
use Rattle.mls_page.proofs.extents.add_stretches.Given as goal

-- those so far
abbrev pub invariant-loop-span : goal.invariant-loop-span
invariant-loop-span l = l.page ≡ added l.fn.page (all_of (span_stretch l.entries) (take l.span-index l.spans))
