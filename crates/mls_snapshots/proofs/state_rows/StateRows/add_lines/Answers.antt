use Rattle.std.proofs.Common.{rules, ◌<◌, ◌≡◌, length, ap, arith}
use Rattle.std.proofs.lemmas.Bool.Decides.{nat_tests}
use Rattle.mls_snapshots.specs.Gathering.{said_by}
use Rattle.mls_snapshots.specs.LineReading.{front, behind}
use Rattle.mls_snapshots.proofs.Cuts.{behind_shorter}
use Rattle.mls_snapshots.proofs.Gathering.{step, end, unread}
use Rattle.mls_snapshots.proofs.state_rows.StateRows.add_lines.Goals as goal

pub returns-then-is_empty-clause-said : goal.returns-then-is_empty-clause-said
returns-then-is_empty-clause-said c =
    let none : length c.cut.result.0.now ≡ 0 = grind (arith, nat_tests, c.is_empty.ensures, c.if-is_empty.true) in
    end c.args.names.now c.words_are_seen.ensures c.args.text.now c.loop-line.rest.now c.cut.result.0.now (said_by c.args.self.now) (said_by c.loop-line.self)
    c.loop-line.invariant.0 c.cut.ensures.front none

pub returns-in_default-clause-fault : goal.returns-in_default-clause-fault
returns-in_default-clause-fault c =
    let some : 0 < length c.cut.result.0.now = grind (arith, nat_tests, c.is_empty.ensures, c.if-is_empty.false) in
    λ rows has within is.
    absurd (unread c.args.names.now c.words_are_seen.ensures c.args.text.now c.loop-line.rest.now c.cut.result.0.now (said_by c.args.self.now) (said_by c.loop-line.self)
    c.read_line.result c.loop-line.invariant.0 c.cut.ensures.front some c.read_line.ensures c.in_default.is rows has within is)

pub loop-line-smaller : goal.loop-line-smaller
loop-line-smaller c =
    let some : 0 < length c.cut.result.0.now = grind (arith, nat_tests, c.is_empty.ensures, c.if-is_empty.false) in
    let before : 0 < length (front 10 c.loop-line.rest.now) = omega (arith, some, ap length c.cut.ensures.front) in
    let shorter : length (behind 10 c.loop-line.rest.now) < length c.loop-line.rest.now = behind_shorter 10 c.loop-line.rest.now before in
    let less : length c.cut.result.1.now < length c.loop-line.rest.now = omega (arith, shorter, ap length c.cut.ensures.behind) in
    less

pub loop-line-preserved : goal.loop-line-preserved
loop-line-preserved c =
    let some : 0 < length c.cut.result.0.now = grind (arith, nat_tests, c.is_empty.ensures, c.if-is_empty.false) in (
      step c.args.names.now c.words_are_seen.ensures c.args.text.now c.loop-line.rest.now c.cut.result.0.now c.cut.result.1.now (said_by c.args.self.now) (said_by c.loop-line.self) (said_by c.add.new.self)
          c.in-Some.said c.read_line.result c.loop-line.invariant.0 c.cut.ensures.front c.cut.ensures.behind some c.read_line.ensures c.in-Some.is c.in_ok-add.ensures,
      search rules,
    )
