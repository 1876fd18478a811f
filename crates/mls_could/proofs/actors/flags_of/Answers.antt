use Rattle.std.proofs.Common.{◌≡◌, ◌+◌, map, nat_lt, subst, sym, ap, ◌∙◌, arith}
use Rattle.mls_state.specs.State.{is_subject}
use Rattle.mls_could.specs.Actors.{is_one}
use Rattle.mls_could.proofs.Flags.{AreFlags, no_flags, flags_pushed, flags_all}
use Rattle.mls_could.proofs.actors.flags_of.Goals as goal

pub loop-n-init : goal.loop-n-init
loop-n-init c =
    subst (λ xs. AreFlags (is_one c.args.names.now c.args.state.now c.args.choice (map (λ word. word.now) c.args.words.now)) xs 0) (sym c.new-flags.ensures.items)
    (no_flags (is_one c.args.names.now c.args.state.now c.args.choice (map (λ word. word.now) c.args.words.now)))

pub loop-n-preserved : goal.loop-n-preserved
loop-n-preserved c =
    subst (λ xs. AreFlags (is_one c.args.names.now c.args.state.now c.args.choice (map (λ word. word.now) c.args.words.now)) xs (c.loop-n.n + 1)) (sym c.in_ok-push.ensures.items)
    (flags_pushed (is_one c.args.names.now c.args.state.now c.args.choice (map (λ word. word.now) c.args.words.now)) c.loop-n.flags.items c.loop-n.n c.is_one.result c.loop-n.invariant
    (c.is_one.ensures ∙ ap (is_one c.args.names.now c.args.state.now c.args.choice (map (λ word. word.now) c.args.words.now)) c.new.ensures))

pub returns : goal.returns
returns c =
    let all : c.loop-n.n ≡ c.subject_count-n-end.result = omega arith in
    flags_all (is_subject c.args.state.now) (is_one c.args.names.now c.args.state.now c.args.choice (map (λ word. word.now) c.args.words.now)) c.loop-n.flags.items c.loop-n.n
    (λ s. c.subject_count-n-end.ensures.count s ∙ ap (nat_lt s) (sym all)) c.loop-n.invariant
