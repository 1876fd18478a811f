use Rattle.std.proofs.Common.{◌≡◌, take}
use Rattle.std.specs.Prelude.{map}
use Rattle.mls_markup.specs.Drafts.{added}
use Rattle.mls_markup.specs.Trees.{all_of}
use Rattle.mls_page.specs.Powers.{kind_items}
use Rattle.mls_page.proofs.powers.all_kinds.Given as goal

-- those so far
abbrev pub invariant-loop-run : goal.invariant-loop-run
invariant-loop-run l = l.page ≡ added l.fn.page (all_of (λ run. kind_items l.names run.now) (take l.run-index l.runs))
