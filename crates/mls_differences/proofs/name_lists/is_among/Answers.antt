use Rattle.std.proofs.Common.{◌+◌, ◌∙◌, ap, sym, drop, map, string_bytes}
use Rattle.std.specs.Str.{bytes_eq}
use Rattle.mls_differences.specs.Counterparts.{is_among}
use Rattle.mls_differences.proofs.NameLists.{among_none, among_here, among_later, names_behind, none_behind}
use Rattle.mls_differences.proofs.name_lists.is_among.Goals as goal

pub loop-other-preserved : goal.loop-other-preserved
loop-other-preserved c =
    let others = c.args.others.now in
    let i = c.loop-other.other-index in
    among_later (map string_bytes (drop i others)) (map string_bytes (drop (i + 1) others)) (string_bytes c.other-item.result) c.args.name.now _
    (names_behind string_bytes others i c.other-item.result c.loop-other-test.true c.other-item.is) c.loop-other.invariant
    (ap (bytes_eq c.args.name.now) (sym c.as_str.ensures.value) ∙ sym c.is_same.ensures ∙ c.if-is_same.false)

pub returns-then-is_same : goal.returns-then-is_same
returns-then-is_same c =
    let others = c.args.others.now in
    let i = c.loop-other.other-index in
    among_here (map string_bytes (drop i others)) (map string_bytes (drop (i + 1) others)) (string_bytes c.other-item.result) c.args.name.now _
    (names_behind string_bytes others i c.other-item.result c.loop-other-test.true c.other-item.is) c.loop-other.invariant
    (ap (bytes_eq c.args.name.now) (sym c.as_str.ensures.value) ∙ sym c.is_same.ensures ∙ c.if-is_same.true)

pub returns : goal.returns
returns c =
    sym (among_none c.args.name.now)
    ∙ ap (λ l. is_among l c.args.name.now) (sym (none_behind string_bytes c.args.others.now c.loop-other.other-index c.loop-other-test.false))
    ∙ c.loop-other.invariant
