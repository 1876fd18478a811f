use Rattle.std.proofs.Common.{◌≡◌, take}
use Rattle.mls_markup.specs.Drafts.{added}
use Rattle.mls_markup.specs.Trees.{all_of}
use Rattle.mls_page.specs.Powers.{power_item}
use Rattle.mls_page.proofs.changes.power_items.Given as goal

-- those so far
abbrev pub invariant-loop-change : goal.invariant-loop-change
invariant-loop-change l = l.page ≡ added l.fn.page (all_of (power_item l.names) (take l.change-index l.changes))
