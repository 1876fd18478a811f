use Rattle.std.proofs.Common.{ap, ◌∙◌, ◌≡◌, ◌++◌, ◌∷◌, [], rules}
use Rattle.mls_markup.specs.Drafts.{closed}
use Rattle.mls_markup.proofs.Parts.{draft_ended}
use Rattle.mls_markup.proofs.page.Page.close.Goals as goal

pub returns : goal.returns
returns c =
    let last : c.self.inside.tags.items ≡ c.pop.new.self.items ++ c.in-Some.tag ∷ [] = search rules in
    draft_ended c.self.inside.html.items c.push_ended.new.html.items c.self.inside.tags.items c.pop.new.self.items c.in-Some.tag c.in_ok-push_ended.ensures last
    ∙ ap closed c.self.view_is
