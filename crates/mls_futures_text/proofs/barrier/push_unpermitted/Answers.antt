use Rattle.std.proofs.Common.{rules, ◌≡◌, ◌++◌, ap, ◌∙◌, codes, string_bytes}
use Rattle.std.specs.declared.alloc.AllocError.{AllocError}
use Rattle.std.proofs.lemmas.List.{append_assoc}
use Rattle.std.proofs.lemmas.Result.{on_ok_weaker}
use Rattle.mls_requests.specs.ModeWords.{mode_word}
use Rattle.mls_wording.specs.Wording.{subject_text, object_text}
use Rattle.mls_futures_text.specs.Barriers.{unpermitted_text}
use Rattle.mls_futures_text.proofs.barrier.push_unpermitted.Goals as goal

pub returns : goal.returns
returns c =
    let t0 = string_bytes c.args.text.now in
    let t1 = string_bytes c.push_subject.new.text in
    let t2 = string_bytes c.push_str.new.self in
    let t3 = string_bytes c.push_mode.new.text in
    let t4 = string_bytes c.push_str-2.new.self in
    let t5 = string_bytes c.push_object.new.text in
    let s = subject_text c.args.names.now c.args.s in
    let p = codes " is not permitted " in
    let m = mode_word c.args.x in
    let f = codes " of " in
    let o = object_text c.args.names.now c.args.o in
    let e1 : t1 ≡ t0 ++ s = search rules in
    let e2 : t2 ≡ t1 ++ p = c.in_ok-push_str.ensures.bytes in
    let e3 : t3 ≡ t2 ++ m = search rules in
    let e4 : t4 ≡ t3 ++ f = c.in_ok-push_str-2.ensures.bytes in
    let all : t4 ≡ t0 ++ (((s ++ p) ++ m) ++ f) =
    e4 ∙ ap (λ k. k ++ f) (e3 ∙ ap (λ k. k ++ m) (e2 ∙ ap (λ k. k ++ p) e1 ∙ append_assoc t0 s p) ∙ append_assoc t0 (s ++ p) m)
    ∙ append_assoc t0 ((s ++ p) ++ m) f in
    let e5 : t5 ≡ t4 ++ o → t5 ≡ t0 ++ unpermitted_text c.args.names.now c.args.s c.args.x c.args.o = λ it.
    it ∙ ap (λ k. k ++ o) all ∙ append_assoc t0 (((s ++ p) ++ m) ++ f) o in
    on_ok_weaker {T = Unit {0}} {E = AllocError} {P = t5 ≡ t4 ++ o}
    {Q = t5 ≡ t0 ++ unpermitted_text c.args.names.now c.args.s c.args.x c.args.o} c.push_object.result e5 c.push_object.ensures.ok
