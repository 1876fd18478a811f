use Rattle.std.proofs.Common.{◌≡◌, ℕ, true, ◌/◌, ◌*◌, ◌∙◌, rules, subst}
use Rattle.mls_monitor.specs.Journal.{fold}
use Rattle.mls_sessions.specs.Cells.{has_bit}
use Rattle.mls_sessions.proofs.Touching.{BitsBelow, bits_tell, full_some}
use Rattle.mls_sessions.proofs.cells.word_of.Goals as goal

pub returns-clause-some : goal.returns-clause-some
returns-clause-some c = full_some c.with_bit.result (subst (λ (k : ℕ). has_bit c.with_bit.result k ≡ true) (let last : c.from-2.result ≡ 32 = search rules in last) c.with_bit.ensures.same)

pub returns-clause-tells : goal.returns-clause-tells
returns-clause-tells c = let v = fold c.args.monitor.now.start c.args.monitor.now.entries in let done : c.loop-k.k ≡ 32 = search rules in let last : c.from-2.result ≡ 32 = search rules in
    bits_tell v c.args.s c.args.o c.loop-k.word _ c.requires (subst (λ (n : ℕ). BitsBelow v (c.args.s / 8 * 8) c.args.o n c.loop-k.word) done c.loop-k.invariant)
    (λ i within ne. c.with_bit.ensures.others i within (λ same. ne (same ∙ last)))
