use Rattle.std.proofs.Common.{◌≡◌, ◌+◌, ◌≤◌, false, cond, sym, ap, subst, ◌∙◌, arith}
use Rattle.mls_state.specs.State.{is_active}
use Rattle.mls_c.specs.Infos.{active_count}
use Rattle.mls_c.proofs.Rows.{count_few, count_more}
use Rattle.mls_c.proofs.counts.count_objects.Goals.{then-is_active, else-is_active}
use Rattle.mls_c.proofs.counts.count_objects.Goals as goal

pub overflow_add-count : goal.overflow_add-count
overflow_add-count c =
    let few : c.loop-n.count ≤ c.loop-n.n = subst (λ k. k ≤ c.loop-n.n) (sym c.loop-n.invariant) (count_few (is_active c.args.state.now) c.loop-n.n) in
    omega arith

pub loop-n-preserved : goal.loop-n-preserved
loop-n-preserved c =
    let v = c.args.state.now in let n = c.loop-n.n in
    let seen : c.is_active.result ≡ is_active v n = c.is_active.ensures ∙ ap (is_active v) c.new.ensures in
    let more = sym (count_more (is_active v) n) in
    elim c.if-is_active.branch [
      | then-is_active w ↦
          w.count-is ∙ ap (λ k. k + 1) c.loop-n.invariant
          ∙ ap (λ b. active_count v n + cond b 1 0) (sym (sym seen ∙ w.if-is_active.true)) ∙ more
      | else-is_active w ↦
          let same : active_count v n ≡ active_count v n + cond false 1 0 = omega arith in
          w.count-is ∙ c.loop-n.invariant ∙ same ∙ ap (λ b. active_count v n + cond b 1 0) (sym (sym seen ∙ w.if-is_active.false)) ∙ more
    ]

pub returns : goal.returns
returns c =
    let all : c.loop-n.n ≡ 4096 = omega arith in
    c.loop-n.invariant ∙ ap (active_count c.args.state.now) all
