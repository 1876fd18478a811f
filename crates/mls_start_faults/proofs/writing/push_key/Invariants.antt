use Rattle.std.proofs.Common.{◌≡◌, ◌++◌, codes, take, string_bytes}
use Rattle.std.specs.List.{flat_map}
use Rattle.mls_start_faults.specs.Places.{byte_text}
use Rattle.mls_start_faults.proofs.writing.push_key.Given as goal

-- the bytes so far are written
abbrev pub invariant-loop-byte : goal.invariant-loop-byte
invariant-loop-byte l =
    string_bytes l.text ≡ string_bytes l.fn.text ++ (codes "/" ++ flat_map byte_text (take l.byte-index l.member))
