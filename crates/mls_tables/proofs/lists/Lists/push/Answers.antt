use Rattle.std.proofs.Common.{[], length, get_or, set, ap, ◌∙◌}
use Rattle.std.specs.List.{insert}
use Rattle.std.proofs.lemmas.List.Edits.{insert_end}
use Rattle.mls_tables.proofs.lists.Lists.push.Goals as goal

pub returns-clause-ok : goal.returns-clause-ok
returns-clause-ok g c =
    let list = get_or c.args.self.now.lists c.args.i [] in
    let same = c.make_room.ensures.same in
    let end = ap length (rw same at c.list-end.ensures) in
    (rw same at c.enter.ensures) ∙ ap (set c.args.self.now.lists c.args.i) (ap (λ k. insert list k c.args.x) end ∙ insert_end list c.args.x)
