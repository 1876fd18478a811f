use Rattle.std.proofs.Common.{◌+◌, sym, subst, refl}
use Rattle.mls_compare.specs.Carriers.{Holds}
use Rattle.mls_compare.specs.Following.{after_other}
use Rattle.mls_compare.proofs.Tables.{ceases_later}
use Rattle.mls_compare.proofs.object_table.ObjectTable.follow_other.Goals as goal

pub returns-in-Created : goal.returns-in-Created
returns-in-Created c = λ objects holds.
    subst (λ there. Holds (c.args.time + 1) (after_other there objects) (record { objects = c.args.self.now.objects; ceased = c.cease.new.ceased }))
    (sym c.in-Created.is)
    (ceases_later c.args.time c.in-Created.p objects c.args.self.now (record { objects = c.args.self.now.objects; ceased = c.cease.new.ceased })
    c.cease.ensures.number refl c.cease.ensures.time holds)
