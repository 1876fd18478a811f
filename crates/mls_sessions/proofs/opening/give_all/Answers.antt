use Rattle.std.proofs.Common.{rules, arith, ◌≡◌, ◌∷◌, ◌++◌, [], ℕ, suc, ◌+◌, ◌-◌, ◌<◌, ap, ◌∙◌}
use Rattle.atomic_table.specs.Seated.{TableId}
use Rattle.mls_sessions.specs.declared.gate_table.View.TheVariants.{Giving, Sessions}
use Rattle.mls_sessions.specs.Rule.{member, opened}
use Rattle.mls_sessions.specs.Steps.{left_of, right_of}
use Rattle.mls_sessions.specs.Sessions.{office_at, session_at, seated, newcomers}
use Rattle.mls_sessions.proofs.SeatsKeep.{splits_at}
use Rattle.mls_sessions.proofs.opening.give_all.Goals as goal

pub split_seat-place-requires : goal.split_seat-place-requires
split_seat-place-requires c = (search rules, search rules, splits_at _ _ (c.args.count - c.loop-number.number) _ (ap (λ m. m.0) c.loop-number.invariant.1) (search rules))

pub loop-number-preserved : goal.loop-number-preserved
loop-number-preserved c = let key = c.args.gate.now.key in let k : ℕ = c.loop-number.number in let all : ℕ = c.args.count in let test : k < all = search rules in
    let was = c.loop-number.invariant.1 in let cut = c.split_seat-place.ensures in
    let less : all - k - 1 ≡ all - (k + 1) = omega arith in
    let left : c.split_seat-place.new.seat.me ≡ (Giving key (all - (k + 1)), []) = cut.2 ∙ (ap (λ m. (left_of m.0, m.1)) was ∙ ap (λ (g : ℕ). (Giving key g, [])) less) in
    let whole : all ≡ key.count = search rules in
    let mine : key.count - (all - k) ≡ k = omega arith in
    let right : c.split_seat-place.result.me.0 ≡ Sessions key (member k (opened key) ∷ []) = ap (λ m. m.0) cut.4 ∙ (ap (λ m. right_of m.0) was ∙ ap (λ (g : ℕ). Sessions key (member g (opened key) ∷ [])) mine) in
    let next : suc k ≡ k + 1 = omega arith in (
      search rules,
      left,
      c.push_reserved.ensures.items ∙ ((λ i. c.loop-number.invariant.2 i ++ (c.enter.ensures ∙ (λ j. session_at (cut.3 j) (right j)) ∙ ap (λ (t : TableId). session_at t (Sessions key (member k (opened key) ∷ []))) (c.loop-number.invariant.0 ∙ c.requires.office.0)) i ∷ []) ∙ ap (newcomers (office_at c.args.gate.now.table_id key)) next),
      search rules,
      (let more = c.push_reserved.ensures.capacity in let had = c.loop-number.invariant.4 in omega arith),
    )

pub enter-requires : goal.enter-requires
enter-requires c = let key = c.args.gate.now.key in let k : ℕ = c.loop-number.number in let all : ℕ = c.args.count in let test : k < all = search rules in
    let was = c.loop-number.invariant.1 in let whole : all ≡ key.count = search rules in let mine : key.count - (all - k) ≡ k = omega arith in
    (key, c.split_seat-place.ensures.4 ∙ (ap (λ m. (right_of m.0, [])) was ∙ ap (λ (g : ℕ). seated key (member g (opened key))) mine), c.requires.first.2)
