use Rattle.std.proofs.Common.{◌≡◌, ◌<◌, ◌≤◌, suc, length, sym, ap, ◌∙◌, arith}
use Rattle.std.proofs.lemmas.Bool.Decides.{nat_tests}
use Rattle.mls_labels.specs.Reading.{place_of, with_one, with_words, words_of, rest_of}
use Rattle.mls_labels.proofs.TextParts.{bad_front, bad_after, last_word, next_word, rest_of-le, none_left, others_utf8}
use Rattle.mls_labels.proofs.reading.read_words.Goals as goal

pub returns-in_default : goal.returns-in_default
returns-in_default g c = sym (bad_front c.args.names.now c.loop-name.found c.loop-name.rest.now c.in_default.ensures.none) ∙ c.loop-name.invariant.1

pub returns-then-is_empty : goal.returns-then-is_empty
returns-then-is_empty g c =
    let zero : length c.in-Some.others.now ≡ 0 = grind (arith, nat_tests, c.is_empty.ensures, c.if-is_empty.true) in
    let none = sym c.in-Some.ensures.rest ∙ none_left c.in-Some.others.now zero in
    c.with_one-found.ensures
    ∙ ap (with_one c.loop-name.found) (c.place.ensures.place ∙ ap (place_of c.args.names.now) c.in-Some.ensures.name)
    ∙ sym (last_word c.args.names.now c.loop-name.found c.loop-name.rest.now c.in-Some.ensures.named none) ∙ c.loop-name.invariant.1

pub returns-in_default-after : goal.returns-in_default-after
returns-in_default-after g c =
    let some : 0 < length c.in-Some.others.now = grind (arith, nat_tests, c.is_empty.ensures, c.if-is_empty.false) in
    let some_rest : 0 < length (rest_of c.loop-name.rest.now) = rw c.in-Some.ensures.rest at some in
    sym (bad_after c.args.names.now c.loop-name.found c.loop-name.rest.now some_rest (λ others e. c.in_default-after.ensures others (c.in-Some.ensures.rest ∙ e))) ∙ c.loop-name.invariant.1

pub loop-name-smaller : goal.loop-name-smaller
loop-name-smaller g c =
    let within : length (rest_of c.loop-name.rest.now) ≤ length c.loop-name.rest.now = rest_of-le c.loop-name.rest.now in
    let longer : length (rest_of c.loop-name.rest.now) ≡ suc (length c.in-Some-after.others.now) = ap length (sym c.in-Some.ensures.rest ∙ c.in-Some-after.ensures) in
    omega arith

pub loop-name-preserved : goal.loop-name-preserved
loop-name-preserved g c =
    let comma = sym c.in-Some.ensures.rest ∙ c.in-Some-after.ensures in (
      others_utf8 c.loop-name.rest.now c.in-Some-after.others.now 44 (omega arith) c.loop-name.invariant.0 comma,
      ap (λ found. with_words c.args.names.now found (words_of c.in-Some-after.others.now)) (c.with_one-found.ensures ∙ ap (with_one c.loop-name.found) (c.place.ensures.place ∙ ap (place_of c.args.names.now) c.in-Some.ensures.name))
          ∙ sym (next_word c.args.names.now c.loop-name.found c.loop-name.rest.now c.in-Some-after.others.now c.in-Some.ensures.named comma) ∙ c.loop-name.invariant.1,
    )
