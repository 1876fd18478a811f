use Rattle.std.proofs.Common.{◌≡◌, take}
use Rattle.mls_markup.specs.Drafts.{added}
use Rattle.mls_markup.specs.Trees.{all_of}
use Rattle.mls_page.specs.Terms.{term_of}
use Rattle.mls_page.proofs.terms.add_lines.Given as goal

-- those so far
abbrev pub invariant-loop-term : goal.invariant-loop-term
invariant-loop-term l = l.page ≡ added l.fn.page (all_of term_of (take l.term-index l.rows))
