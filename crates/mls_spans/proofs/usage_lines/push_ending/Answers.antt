use Rattle.std.proofs.Common.{rules, ◌≡◌, ◌++◌, ap, ◌∙◌, string_bytes}
use Rattle.std.specs.Prelude.{codes}
use Rattle.std.specs.Fmt.{decimal}
use Rattle.mls_spans.specs.UsageLines.{permissions_words}
use Rattle.mls_spans.proofs.Texts.{four_texts}
use Rattle.mls_spans.proofs.usage_lines.push_ending.Goals as goal

pub returns : goal.returns
returns c =
    let t0 = string_bytes c.args.text.now in
    let t1 = string_bytes c.push_number.new.text in
    let t2 = string_bytes c.push_str.new.self in
    let t3 = string_bytes c.push_number-2.new.text in
    let t4 = string_bytes c.push_str-2.new.self in
    let e1 : t1 ≡ t0 ++ decimal c.args.count = search rules in
    let e2 : t2 ≡ t1 ++ c.permissions_words.result.now = search rules in
    let e3 : t3 ≡ t2 ++ decimal c.args.unused = search rules in
    let e4 : t4 ≡ t3 ++ codes " never granted\n" = search rules in
    four_texts t0 t1 t2 t3 t4 (decimal c.args.count) (permissions_words c.args.count) (decimal c.args.unused) (codes " never granted\n") e1
    (e2 ∙ ap (λ k. t1 ++ k) c.permissions_words.ensures) e3 e4
