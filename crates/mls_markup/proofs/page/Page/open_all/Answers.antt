use Rattle.std.proofs.Common.{map, ap, ◌∙◌}
use Rattle.mls_markup.specs.Drafts.{Draft, opened}
use Rattle.mls_markup.specs.Trees.{named}
use Rattle.mls_markup.proofs.Parts.{draft_begun}
use Rattle.mls_markup.proofs.page.Page.open_all.Goals as goal

pub returns : goal.returns
returns c =
    draft_begun c.self.inside.html.items c.push_begun.new.html.items c.self.inside.tags.items c.push.new.self.items c.args.tag (map named c.args.attributes.now)
    c.in_ok-push_begun.ensures c.in_ok-push.ensures.items
    ∙ ap (λ (d : Draft). opened d c.args.tag (map named c.args.attributes.now)) c.self.view_is
