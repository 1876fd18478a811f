use Rattle.std.proofs.Common.{◌+◌, ◌∙◌, ◌++◌, ◌∷◌, [], ap, cond, drop, map, string_bytes}
use Rattle.mls_differences.specs.Counterparts.{is_among}
use Rattle.mls_differences.proofs.NameLists.{common_more, common_all, names_behind, none_behind, next_below}
use Rattle.mls_differences.proofs.levels.push_common.Goals as goal

pub loop-name-preserved : goal.loop-name-preserved
loop-name-preserved c =
    let names = c.args.names.now in
    let others = map string_bytes c.args.others.now in
    let i = c.loop-name.name-index in
    let x = c.name-item.result in
    let b = c.is_among-is_common.result in
    record {
      told = common_more others (map string_bytes (drop i names)) (map string_bytes (drop (i + 1) names)) (string_bytes x) (string_bytes c.loop-name.text)
          (string_bytes c.push_where.new.text) _ c.loop-name.separator _ b
          (names_behind string_bytes names i x c.loop-name-test.true c.name-item.is) (c.is_among-is_common.ensures ∙ ap (is_among others) c.as_str.ensures.value)
          (c.in_ok-separator.ensures.text ∙ ap (λ n. string_bytes c.loop-name.text ++ cond b (c.loop-name.separator ∷ n) []) c.as_str-in-loop-name.ensures.value)
          c.in_ok-separator.ensures.next c.loop-name.invariant.told;
      ascii = next_below b c.loop-name.separator _ c.in_ok-separator.ensures.next c.loop-name.invariant.ascii;
    }

pub returns : goal.returns
returns c =
    common_all (map string_bytes c.args.others.now) (map string_bytes (drop c.loop-name.name-index c.args.names.now)) (string_bytes c.loop-name.text) _
    c.loop-name.separator (none_behind string_bytes c.args.names.now c.loop-name.name-index c.loop-name-test.false) c.loop-name.invariant.told
