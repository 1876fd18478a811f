use Rattle.std.proofs.Common.{ap, ◌∙◌, ◌==◌, length}
use Rattle.mls_start_faults.specs.Members.{has_none}
use Rattle.mls_start_faults.proofs.Trees.{none_listed}
use Rattle.mls_start_faults.proofs.members.has_none.Goals as goal

pub returns-in-Some : goal.returns-in-Some
returns-in-Some c =
    c.is_empty.ensures ∙ ap (λ vs. length vs == 0) c.as_slice.ensures.value
    ∙ none_listed c.in-Some.items.now.items ∙ ap has_none c.in-Some.ensures
