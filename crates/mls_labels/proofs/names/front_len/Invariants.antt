use Rattle.std.specs.Prelude.{◌≡◌, ◌+◌, drop}
use Rattle.std.specs.List.{prefix_len}
use Rattle.mls_labels.specs.Names.{is_name_byte}
use Rattle.mls_labels.proofs.names.front_len.Given as goal

-- all bytes so far are of a name
abbrev pub invariant-loop-byte : goal.invariant-loop-byte
invariant-loop-byte l = (l.len ≡ l.byte-index) × (prefix_len is_name_byte l.bytes ≡ l.byte-index + prefix_len is_name_byte (drop l.byte-index l.bytes))
