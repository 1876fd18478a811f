use Rattle.std.proofs.Common.{sym, ap, ◌∙◌, option_map, unwrap_or}
use Rattle.mls_start_text.specs.Looking.{count_of}
use Rattle.mls_start_text.proofs.Trees.{count_of_members}
use Rattle.mls_complete.proofs.looking.member_count.Goals as goal

pub returns-in-Some : goal.returns-in-Some
returns-in-Some c = c.len.ensures.len ∙ sym (count_of_members c.in-Some.members.now.entries) ∙ ap (λ o. unwrap_or (option_map count_of o) 0) c.in-Some.ensures
