use Rattle.std.proofs.Common.{◌<◌, refl, arith}
use Rattle.mls_tables.proofs.TakenRuns.{TakenOut-none, IsRows-taken}
use Rattle.mls_tables.proofs.runs.take_from_holders.Goals as goal

pub loop-o-init : goal.loop-o-init
loop-o-init g c = record {
  many = refl;
  marks = refl;
  all = λ b a low less. absurd (omega arith);
  taken = TakenOut-none 256 c.args.first c.args.end c.args.objects.now.lists;
}

pub returns-clause-taken : goal.returns-clause-taken
returns-clause-taken g c p h =
    IsRows-taken c.loop-o.marked c.args.first c.args.end c.args.objects.now.lists c.args.subjects.now.lists c.loop-o.objects.lists p c.loop-o.invariant.taken h
    (λ b a low less there. let read : b < c.loop-o.o = omega (arith, c.loop-o-test.false) in c.loop-o.invariant.all b a low read there)
