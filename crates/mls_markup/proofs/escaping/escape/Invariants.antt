use Rattle.std.proofs.Common.{◌≡◌, ◌++◌, take}
use Rattle.mls_markup.specs.Escaping.{escaped}
use Rattle.mls_markup.proofs.escaping.escape.Given as goal

-- what is written of the bytes so far is appended
abbrev pub invariant-loop-byte : goal.invariant-loop-byte
invariant-loop-byte l = l.bytes.items ≡ l.fn.bytes.items ++ escaped (take l.byte-index l.byte-items)
