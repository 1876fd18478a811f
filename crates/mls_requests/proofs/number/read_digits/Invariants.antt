use Rattle.std.proofs.Common.{◌≡◌, ◌≤◌, drop}
use Rattle.mls_facts.specs.Decimals.{value_within}
use Rattle.mls_requests.proofs.NumberLemmas.{read_on}
use Rattle.mls_requests.proofs.number.read_digits.Given as goal

-- what is read of the rest is what is read of all
abbrev pub invariant-loop-byte : goal.invariant-loop-byte
invariant-loop-byte l = record {
  small : l.number ≤ l.most;
  rest : read_on l.most l.number (drop l.byte-index l.digits) ≡ value_within l.most l.digits;
}
