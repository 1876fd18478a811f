use Rattle.std.proofs.Common.{◌+◌, sym, subst, refl}
use Rattle.mls_compare.specs.Carriers.{Holds}
use Rattle.mls_compare.specs.Following.{after_create}
use Rattle.mls_compare.proofs.Tables.{made, made_none, cleared}
use Rattle.mls_compare.proofs.object_table.ObjectTable.follow_create.Goals as goal

pub returns-in-Created : goal.returns-in-Created
returns-in-Created c = λ objects holds.
    subst (λ there. Holds (c.args.time + 1) (after_create c.args.o there objects) (record { objects = c.put.new.objects; ceased = c.cease.new.ceased }))
    (sym c.in-Created.is)
    (made c.args.time c.args.o c.in-Created.p objects c.args.self.now (record { objects = c.put.new.objects; ceased = c.cease.new.ceased })
    c.cease.ensures.number c.put.ensures c.cease.ensures.time holds)

pub returns-in-Yes : goal.returns-in-Yes
returns-in-Yes c = λ objects holds.
    subst (λ after. Holds (c.args.time + 1) after (record { objects = c.put-in-Yes.new.objects; ceased = c.args.self.now.ceased }))
    (made_none c.args.o c.args.there objects c.in-Yes.is)
    (cleared c.args.time c.args.o objects c.args.self.now (record { objects = c.put-in-Yes.new.objects; ceased = c.args.self.now.ceased })
    c.put-in-Yes.ensures refl holds)
