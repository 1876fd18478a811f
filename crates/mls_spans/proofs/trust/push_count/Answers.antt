use Rattle.std.proofs.Common.{rules, ◌≡◌, ◌++◌, ap, sym, ◌∙◌, codes, string_bytes}
use Rattle.std.specs.declared.alloc.AllocError.{AllocError}
use Rattle.std.specs.Fmt.{decimal}
use Rattle.std.proofs.lemmas.List.{append_assoc}
use Rattle.std.proofs.lemmas.Result.{on_ok_weaker}
use Rattle.mls_rows.specs.Times.{rows_lent}
use Rattle.mls_spans.specs.EntryText.{entry_text}
use Rattle.mls_spans.specs.Trust.{count_text}
use Rattle.mls_spans.proofs.trust.push_count.Goals as goal

pub returns-in_ok-push_str-in-Some : goal.returns-in_ok-push_str-in-Some
returns-in_ok-push_str-in-Some c =
    let t0 = string_bytes c.args.text.now in
    let t1 = string_bytes c.push_number.new.text in
    let t2 = string_bytes c.push_str.new.self in
    let t3 = string_bytes c.push_entry.new.text in
    let rows = rows_lent c.args.marks in
    let n = decimal c.args.count in
    let g = codes " granted, last " in
    let e = entry_text rows c.in-Some.number in
    let e1 : t1 ≡ t0 ++ n = search rules in
    let e2 : t2 ≡ t1 ++ g = c.in_ok-push_str-in-Some.ensures.bytes in
    let e3 : t3 ≡ t2 ++ e → t3 ≡ t0 ++ count_text rows c.args.count c.args.last = λ it.
    it ∙ ap (λ k. k ++ e) (e2 ∙ ap (λ k. k ++ g) e1 ∙ append_assoc t0 n g) ∙ append_assoc t0 (n ++ g) e
    ∙ ap (λ l. t0 ++ count_text rows c.args.count l) (sym c.in-Some.is) in
    on_ok_weaker {T = Unit {0}} {E = AllocError} {P = t3 ≡ t2 ++ e} {Q = t3 ≡ t0 ++ count_text rows c.args.count c.args.last}
    c.push_entry.result e3 c.push_entry.ensures
