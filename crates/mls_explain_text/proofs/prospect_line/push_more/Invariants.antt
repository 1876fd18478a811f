use Rattle.std.proofs.Common.{◌≡◌, ◌++◌, take, string_bytes}
use Rattle.std.specs.List.{flat_map}
use Rattle.mls_explain_text.specs.Who.{one_more_release}
use Rattle.mls_explain_text.proofs.prospect_line.push_more.Given as goal

-- the accesses so far are written
abbrev pub invariant-loop-access : goal.invariant-loop-access
invariant-loop-access l = string_bytes l.text ≡ string_bytes l.fn.text ++ flat_map (one_more_release l.names) (take l.access-index l.accesses)
