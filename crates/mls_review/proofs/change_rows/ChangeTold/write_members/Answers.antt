use Rattle.std.proofs.Common.{◌≡◌, ◌++◌, subst, sym}
use Rattle.std.specs.Prelude.{OnOk}
use Rattle.mls_review.specs.Granted.{change_view, relabels}
use Rattle.mls_review.specs.PowerRows.{granted_members}
use Rattle.mls_review.proofs.change_rows.ChangeTold.write_members.Goals as goal

pub returns-in-Labels : goal.returns-in-Labels
returns-in-Labels c =
    let taken = subst (λ labels. OnOk c.write_taken.result
    ((c.write_taken.new.writer.tokens ≡ c.args.writer.now.tokens ++ granted_members c.args.names.now (relabels c.in-Labels.s c.in-Labels.change labels))
    × (c.write_taken.new.writer.before ≡ c.args.writer.now.before)))
    c.deref.ensures.value c.write_taken.ensures in
    subst (λ change. OnOk c.write_taken.result
    ((c.write_taken.new.writer.tokens ≡ c.args.writer.now.tokens ++ granted_members c.args.names.now (change_view change))
    × (c.write_taken.new.writer.before ≡ c.args.writer.now.before)))
    (sym c.in-Labels.is) taken
