use Rattle.std.proofs.Common.{◌+◌, ◌<◌, ◌^◌, arith}
use Rattle.std.specs.Int.{w64}
use Rattle.std.proofs.lemmas.Nat.Bits.{bit_at-trailing_ones}
use Rattle.mls_tree.proofs.numbers.lowest_zero.Goals as goal

pub returns : goal.returns
returns c =
    let fits = c.ranges.word.fits in
    let other = c.requires in
    let small : c.args.word + 1 < 2 ^ 64 = omega (arith, fits, other) in
    let ones = bit_at-trailing_ones w64 c.args.word small in
    rw c.trailing_ones.ensures (record { within = ones.0; zero_bit = ones.1; ones = ones.2 })
