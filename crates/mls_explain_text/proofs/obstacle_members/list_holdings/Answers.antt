use Rattle.mls_explain_text.proofs.obstacle_members.list_holdings.Goals as goal

pub returns : goal.returns
returns c = c.list_held.ensures
