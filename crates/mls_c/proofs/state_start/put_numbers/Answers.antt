use Rattle.std.proofs.Common.{◌≡◌, ◌+◌, ◌++◌, drop, map, set, length-set, sym, subst, ◌∙◌, arith}
use Rattle.std.specs.List.{range_with_len}
use Rattle.mls_c.specs.StateStart.{new_number}
use Rattle.mls_c.proofs.NewNumbers.{put_number}
use Rattle.mls_c.proofs.state_start.put_numbers.Goals as goal

pub loop-o-preserved : goal.loop-o-preserved
loop-o-preserved c =
    let f = new_number c.args.order.now in let now = c.loop-o.numbers in let k = c.loop-o.o in (
      subst (λ n. set now k n ≡ map f (range_with_len 0 (k + 1)) ++ drop (k + 1) c.args.numbers.now) (sym c.new_number.ensures)
          (put_number f c.args.numbers.now now k (omega arith) c.loop-o.invariant.0),
      length-set now k c.new_number.result ∙ c.loop-o.invariant.1,
    )
