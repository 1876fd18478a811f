use Rattle.std.proofs.Common.{◌≡◌, take}
use Rattle.mls_markup.specs.Drafts.{added}
use Rattle.mls_markup.specs.Trees.{all_of}
use Rattle.mls_page.specs.Heads.{link_to}
use Rattle.mls_page.proofs.head.add_each.Given as goal

-- those so far
abbrev pub invariant-loop-section : goal.invariant-loop-section
invariant-loop-section l = l.page ≡ added l.fn.page (all_of link_to (take l.section-index l.sections))
