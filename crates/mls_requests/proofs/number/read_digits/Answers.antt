use Rattle.std.proofs.Common.{sym, ap, ◌∙◌, arith, get_or, ◌+◌, ◌-◌, ◌*◌, ◌<◌, ◌≤◌, drop}
use Rattle.std.proofs.lemmas.List.{drop_all}
use Rattle.mls_requests.proofs.NumberLemmas.{read_on, read_from_zero, read_digit, read_none, read_great, next_digit}
use Rattle.mls_requests.proofs.number.read_digits.Goals as goal
use Rattle.mls_requests.proofs.number.read_digits.Goals.{then-number-most-via-then-number-most, then-number-most-via-else-number-most+then-digit-most}

pub loop-byte-init : goal.loop-byte-init
loop-byte-init c = record { small = omega arith; rest = read_from_zero c.args.most c.args.digits.now }

pub returns-then-number-most-clause-value : goal.returns-then-number-most-clause-value
returns-then-number-most-clause-value c =
    let most = c.args.most in
    let n = c.loop-byte.number in
    let i = c.loop-byte.byte-index in
    let digits = c.args.digits.now in
    let great : most < n * 10 + (get_or digits i 0 - 48) =
    elim c.then-number-most.branch [
      | then-number-most-via-then-number-most w ↦ omega arith
      | then-number-most-via-else-number-most+then-digit-most w ↦ omega arith
    ] in
    sym (sym c.loop-byte.invariant.rest ∙ ap (read_on most n) (next_digit digits i c.loop-byte-test.true)
    ∙ read_great most n (get_or digits i 0) (drop (i + 1) digits) great)

pub loop-byte-preserved : goal.loop-byte-preserved
loop-byte-preserved c =
    let most = c.args.most in
    let n = c.loop-byte.number in
    let i = c.loop-byte.byte-index in
    let digits = c.args.digits.now in
    let small : n * 10 + (get_or digits i 0 - 48) ≤ most = omega arith in
    record {
      small = small;
      rest =
          sym (read_digit most n (get_or digits i 0) (drop (i + 1) digits) (sym c.if-not-is_digit.ensures) small)
          ∙ ap (read_on most n) (sym (next_digit digits i c.loop-byte-test.true)) ∙ c.loop-byte.invariant.rest;
    }

pub returns-clause-value : goal.returns-clause-value
returns-clause-value c =
    let n = c.loop-byte.number in
    sym (read_none c.args.most n) ∙ ap (read_on c.args.most n) (sym (drop_all c.loop-byte.byte-index c.args.digits.now c.loop-byte-test.false)) ∙ c.loop-byte.invariant.rest
