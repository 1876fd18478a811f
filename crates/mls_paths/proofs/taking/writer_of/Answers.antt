use Rattle.std.proofs.Common.{◌≡◌, ◌<◌, true, nat_lt, sym, ◌∙◌, arith}
use Rattle.std.proofs.lemmas.Bool.Decides.{nat_tests}
use Rattle.mls_tables.specs.declared.mode.Mode.TheVariants.{Write}
use Rattle.mls_paths.specs.Hands.{acts_of}
use Rattle.mls_paths.proofs.Hands.{got_subject}
use Rattle.mls_paths.proofs.taking.writer_of.Goals as goal

pub returns : goal.returns
returns c = λ s could.
    let all : c.loop-n.n ≡ c.subject_count-n-end.result = omega arith in
    let below : nat_lt s c.subject_count-n-end.result ≡ true =
    sym (c.subject_count-n-end.ensures.count s) ∙ got_subject c.args.state.now (acts_of c.args.ground) s c.args.o Write could in
    let low : s < c.subject_count-n-end.result = grind (arith, nat_tests, below) in
    c.loop-n.invariant s (omega (arith, all, low)) could
